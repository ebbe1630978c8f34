use Rattle.std.proofs.Common.{List, map, ap}
use Rattle.bhs_wire.specs.Lines.{Line}
use Rattle.bhs_session.specs.Texts.{command_of}
use Rattle.bhs_theorems_isolation.proofs.contests.attended_sessions_took_part.Goals as goal

pub returns : goal.returns
returns g c = λ keys shared_matches input_old input_new output_old output_new turns played ended play given passes index
    attended kept replies shared_match accord handed_in. record {
      kept = kept;
      replies = replies;
      given = given;
      passes = passes;
      accord = accord;
      index = index;
      handed_in = handed_in;
      shared_matches = shared_matches;
      game = played.game;
      shared_match = shared_match;
      of_shared_match = attended.written.0;
      wrote = attended.written.1;
      none_more = λ between. ap (λ (lines : List Line). map command_of lines) (attended.none_more between);
    }
