use Rattle.bhs_view.proofs.GuessLemmas.{guess_is_refuted, solved_is_not_refuted}
use Rattle.bhs_view.proofs.laws.guesses_are_refuted.Goals as goal

pub returns : goal.returns
returns c = record {
  guess = λ play node ended is. let both = guess_is_refuted play node ended is in
      record { fits = both.0; wrong = both.1 };
  solved = solved_is_not_refuted;
}
