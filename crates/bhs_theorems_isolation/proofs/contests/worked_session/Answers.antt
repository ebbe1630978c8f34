use Rattle.std.proofs.Common.{None, [], ◌∷◌, refl, inl, inr}
use Rattle.bhs_model.specs.declared.replies.Why.TheVariants.{Twice}
use Rattle.bhs_time.specs.declared.kinds.ScheduleKind.TheVariants.{Adaptive}
use Rattle.bhs_wire.proofs.OnLiterals.{bhs_wire_on_literals}
use Rattle.bhs_theorems_isolation.specs.ContestExample.{settled, pass, all_said}
use Rattle.bhs_theorems_isolation.specs.ContestExample.{settled_elsewhere, pass_beside, pass_elsewhere, said_elsewhere}
use Rattle.bhs_theorems_isolation.specs.ContestExample.{said_beside}
use Rattle.bhs_model.specs.declared.replies.Reply.TheVariants.{Over}
use Rattle.bhs_session.specs.Texts.{text_of}
use Rattle.bhs_theorems_isolation.proofs.contests.worked_session.Goals as goal

pub returns : goal.returns
unfolding bhs_wire_on_literals
returns c = record {
  text = refl;
  receipts = refl;
  arrival = refl;
  turns = ((tt, refl, refl), ((tt, (Twice, refl)), ((tt, refl, refl), (refl, ((tt, refl, refl), tt)))));
  past = refl;
  headline = record {
    kept = refl;
    replies = refl;
    given = record { game = 0; net = settled.net; setup = settled.setup; held = []; schedule = Adaptive };
    passes = pass ∷ [];
    accord = record {
      world = record { same_net = refl; same_setup = refl };
      commands = (refl, (refl, tt));
      arrivals = (refl, tt);
      closed = refl;
    };
    index = 0;
    handed_in = refl;
    shared_matches = record { game = 0; net = settled.net; setup = settled.setup; held = []; schedule = Adaptive } ∷ [];
    game = 0;
    shared_match = refl;
    of_shared_match = refl;
    wrote = record {
      all = all_said;
      in_turn = ((tt, refl, refl), ((tt, (Twice, refl)), ((tt, refl, refl), (refl, ((tt, refl, refl), tt)))));
      parting = None;
      receipts = refl;
      kept = refl;
      arrivals = refl;
      left = [];
      few = inl refl;
      said = refl;
      last = [];
      is_last = inl refl;
      unwritten = [];
      heard = refl;
      is_unwritten = refl;
      ends = (refl, refl, refl, refl);
    };
    none_more = λ between. absurd (cc);
  };
  other = record {
    kept = refl;
    replies = refl;
    given = record {
      game = 3;
      net = settled_elsewhere.net;
      setup = settled_elsewhere.setup;
      held = [];
      schedule = Adaptive;
    };
    passes = pass_beside ∷ pass_elsewhere ∷ [];
    accord = record {
      world = record { same_net = refl; same_setup = refl };
      commands = (refl, (refl, (refl, tt)));
      arrivals = (refl, (refl, tt));
      closed = refl;
    };
    index = 1;
    handed_in = refl;
    shared_matches = record {
      game = 3;
      net = settled_elsewhere.net;
      setup = settled_elsewhere.setup;
      held = [];
      schedule = Adaptive;
    } ∷ [];
    game = 0;
    shared_match = refl;
    of_shared_match = refl;
    wrote = record {
      all = said_elsewhere;
      in_turn = ((tt, refl, refl), ((tt, (Twice, refl)), ((tt, refl, refl), (refl, ((tt, refl, refl), tt)))));
      parting = None;
      receipts = refl;
      kept = refl;
      arrivals = refl;
      left = [];
      few = inl refl;
      said = refl;
      last = [];
      is_last = inl refl;
      unwritten = [];
      heard = refl;
      is_unwritten = refl;
      ends = (refl, refl, refl, refl);
    };
    none_more = λ between. absurd (cc);
  };
  equal_pasts = refl;
  equal_commands = refl;
  on_a_link = (
    record {
      kept = refl;
      replies = refl;
      given = record {
        game = 3;
        net = settled_elsewhere.net;
        setup = settled_elsewhere.setup;
        held = [];
        schedule = Adaptive;
      };
      passes = pass_beside ∷ pass_elsewhere ∷ [];
      accord = record {
        world = record { same_net = refl; same_setup = refl };
        commands = (refl, (refl, (refl, tt)));
        arrivals = (refl, (refl, tt));
        closed = refl;
      };
      index = 0;
      handed_in = refl;
      shared_matches = record {
        game = 3;
        net = settled_elsewhere.net;
        setup = settled_elsewhere.setup;
        held = [];
        schedule = Adaptive;
      } ∷ [];
      game = 0;
      shared_match = refl;
      of_shared_match = refl;
      wrote = record {
        all = said_beside;
        in_turn = ((tt, refl, refl), ((tt, refl, refl), tt));
        parting = None;
        receipts = refl;
        kept = refl;
        arrivals = refl;
        left = [];
        few = inl refl;
        said = refl;
        last = text_of Over;
        is_last = inr refl;
        unwritten = [];
        heard = refl;
        is_unwritten = refl;
        ends = (refl, refl);
      };
      none_more = λ between. absurd (cc);
    },
    inr (refl, refl),
  );
}
