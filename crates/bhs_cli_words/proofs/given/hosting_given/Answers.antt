use Rattle.clap.specs.Words.{found_of, rows_of}
use Rattle.bhs_cli_words.specs.Serving.{serve_words}
use Rattle.bhs_cli_words.proofs.NumberLemmas.{hosting_said}
use Rattle.bhs_cli_words.proofs.given.hosting_given.Goals as goal

pub returns : goal.returns
returns c =
    hosting_said (serve_words (rows_of (found_of c.args.words.now))) _ (record {
      port = c.in-Some.ensures;
      sessions = c.in-Some-number_given.ensures;
      turns = c.in-Some-number_given-2.ensures;
      pause = c.in-Some-number_given-3.ensures;
      grace = c.in-Some-number_given-4.ensures;
      gather = c.in-Some-number_given-5.ensures;
      early = c.is_given.ensures;
      log = c.is_given-2.ensures;
      address = c.in_ok-text_given.ensures;
      prefix = c.in_ok-text_given-2.ensures;
    })
