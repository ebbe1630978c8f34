-- The worked contest of two agents on the triangle.
use Rattle.std.proofs.Common.{ℕ, zero, suc, ◌<◌, ◌^◌, ◌≡◌, ◌∙◌, true, Some, None, List, [], ◌∷◌, ◌++◌, codes, refl, sym}
use Rattle.std.proofs.Common.{inl, inr, arith}
use Rattle.serde_json.specs.Read.{read}
use Rattle.serde_json.specs.Written.{compact_text}
use Rattle.bhs_wire.proofs.OnLiterals.{bhs_wire_on_literals}
use Rattle.bhs_model.specs.declared.commands.Command.TheVariants.{Enter, Depart, Accuse}
use Rattle.bhs_model.specs.declared.replies.Reply.TheVariants.{Here, Gone, Noted, Over}
use Rattle.bhs_model.specs.Examples.{none_held}
use Rattle.bhs_time.specs.declared.kinds.ScheduleKind.TheVariants.{Adaptive}
use Rattle.bhs_replay.proofs.EventReads.{is_number, reads, read-compact_text}
use Rattle.bhs_schedules.specs.declared.answers.Step.TheVariants.{Says, Stops}
use Rattle.bhs_schedules.specs.Strategies.{Heard, History}
use Rattle.bhs_protocols.specs.AllRings.{IsSetOn}
use Rattle.bhs_protocols.proofs.StandardNetworks.{standard_rings_are_set}
use Rattle.bhs_protocols_triangle.specs.Triangle.{Phase, Begins, Departs, Goes, Turns, ComesBack, Accuses, Ends}
use Rattle.bhs_protocols_triangle.specs.Triangle.{does_in}
use Rattle.bhs_protocols_triangle.specs.Triangle.{next_phase, phase_after, explorers}
use Rattle.bhs_protocols_triangle.proofs.TriangleLemmas.{triangle_is_solved}
use Rattle.bhs_model.specs.Views.{Away, Ended as Stopped}
use Rattle.bhs_match.specs.Decided.{is_done}
use Rattle.bhs_shared_match.specs.SharedMatches.{Given}
use Rattle.bhs_session.specs.Texts.{text_of}
use Rattle.bhs_client.specs.CommandLines.{data_of}
use Rattle.bhs_theorems_isolation.specs.ContestMet.{TookPart}
use Rattle.bhs_attest.specs.Laws.{trial_in}
use Rattle.bhs_theorems_contests.specs.Contests.{IsPlayedIn}
use Rattle.bhs_theorems_contests.specs.Example.{searched_triangle, said_by_first, said_by_second, pass_of}
use Rattle.bhs_theorems_contests.specs.Example.{first, second, clients}
use Rattle.bhs_theorems_contests.specs.Example.{TheLawSpeaksOfIt}
use Rattle.bhs_theorems_contests.proofs.Chains.{HasTalked, IsSpelled, talked_none, says_then, waits_then}
use Rattle.bhs_theorems_contests.proofs.Orderly.{waiters_are_orderly}

abbrev key : List ℕ
key = codes "k"

-- ---- lines

port_spelled : (port : ℕ) → port < 2 ^ 16
    → read (compact_text (data_of key (Depart port))) ≡ Some (data_of key (Depart port))
port_spelled port small =
    read-compact_text (data_of key (Depart port)) (tt, (is_number port small, tt)) (omega arith)
    (rw (reads port small) refl)

accuse_spelled : (port : ℕ) → port < 2 ^ 16
    → read (compact_text (data_of key (Accuse port))) ≡ Some (data_of key (Accuse port))
accuse_spelled port small =
    read-compact_text (data_of key (Accuse port)) (tt, (is_number port small, tt)) (omega arith)
    (rw (reads port small) refl)

enters : IsSpelled key Enter
unfolding bhs_wire_on_literals
enters = record {
  fits = tt;
  utf8 = refl;
  reads = read-compact_text (data_of key Enter) (tt, (tt, tt)) (omega arith) refl;
  kind = refl;
}

departs_first : IsSpelled key (Depart 0)
unfolding bhs_wire_on_literals
departs_first = record { fits = omega arith; utf8 = refl; reads = port_spelled 0 (omega arith); kind = refl }

departs_second : IsSpelled key (Depart 1)
unfolding bhs_wire_on_literals
departs_second = record { fits = omega arith; utf8 = refl; reads = port_spelled 1 (omega arith); kind = refl }

accuses : IsSpelled key (Accuse 1)
unfolding bhs_wire_on_literals
accuses = record { fits = omega arith; utf8 = refl; reads = accuse_spelled 1 (omega arith); kind = refl }

-- ---- talks

abbrev first_history : History
first_history =
    Heard Noted ∷ Heard (Here 2 (Some 0) []) ∷ Heard Gone ∷ Heard (Here 2 (Some 1) []) ∷ Heard Gone
    ∷ Heard (Here 2 None []) ∷ []

abbrev first_heard : List ℕ
first_heard =
    ((((([] ++ text_of (Here 2 None [])) ++ text_of Gone) ++ text_of (Here 2 (Some 1) [])) ++ text_of Gone)
    ++ text_of (Here 2 (Some 0) [])) ++ text_of Noted

first_talked : HasTalked 0 (explorers 0) key first_history (Enter ∷ Depart 0 ∷ Depart 1 ∷ Accuse 1 ∷ []) first_heard
first_talked =
    says_then 0 (explorers 0) key _ _ _ (Accuse 1) Noted refl accuses tt
    (waits_then 0 (explorers 0) key _ _ _ (Here 2 (Some 0) []) refl (omega arith, omega arith)
    (says_then 0 (explorers 0) key _ _ _ (Depart 1) Gone refl departs_second tt
    (waits_then 0 (explorers 0) key _ _ _ (Here 2 (Some 1) []) refl (omega arith, omega arith)
    (says_then 0 (explorers 0) key _ _ _ (Depart 0) Gone refl departs_first tt
    (says_then 0 (explorers 0) key _ _ _ Enter (Here 2 None []) refl enters (omega arith, tt)
    (talked_none 0 (explorers 0) key))))))

abbrev second_heard : List ℕ
second_heard = (([] ++ text_of (Here 2 None [])) ++ text_of Gone) ++ text_of Over

second_talked : HasTalked 0 (explorers 1) key (Heard Over ∷ Heard Gone ∷ Heard (Here 2 None []) ∷ [])
    (Enter ∷ Depart 1 ∷ []) second_heard
second_talked =
    waits_then 0 (explorers 1) key _ _ _ Over refl tt
    (says_then 0 (explorers 1) key _ _ _ (Depart 1) Gone refl departs_second tt
    (says_then 0 (explorers 1) key _ _ _ Enter (Here 2 None []) refl enters (omega arith, tt)
    (talked_none 0 (explorers 1) key)))

-- ---- sessions

abbrev given : Given
given = record {
  game = 0;
  net = searched_triangle.net;
  setup = searched_triangle.setup;
  held = [];
  schedule = Adaptive;
}

first_took : TookPart first
unfolding bhs_wire_on_literals
first_took = record {
  kept = refl;
  replies = refl;
  given = given;
  passes = pass_of 0 said_by_first ∷ pass_of 1 said_by_second ∷ [];
  accord = record {
    world = record { same_net = refl; same_setup = refl };
    commands = (refl, (refl, tt));
    arrivals = (refl, (refl, tt));
    closed = refl;
  };
  index = 0;
  handed_in = refl;
  shared_matches = given ∷ [];
  game = 0;
  shared_match = refl;
  of_shared_match = refl;
  wrote = record {
    all = said_by_first;
    in_turn = ((tt, refl, refl), ((tt, refl, refl), (refl, ((tt, refl, refl), (refl, ((tt, refl, refl), tt))))));
    parting = None;
    receipts = refl;
    kept = refl;
    arrivals = refl;
    left = [];
    few = inl refl;
    said = refl;
    last = [];
    is_last = inl refl;
    unwritten = [];
    heard = refl;
    is_unwritten = refl;
    ends = (refl, refl, refl, refl);
  };
  none_more = λ between. absurd (cc);
}

second_took : TookPart second
unfolding bhs_wire_on_literals
second_took = record {
  kept = refl;
  replies = refl;
  given = given;
  passes = pass_of 0 said_by_first ∷ pass_of 1 said_by_second ∷ [];
  accord = record {
    world = record { same_net = refl; same_setup = refl };
    commands = (refl, (refl, tt));
    arrivals = (refl, (refl, tt));
    closed = refl;
  };
  index = 1;
  handed_in = refl;
  shared_matches = given ∷ [];
  game = 0;
  shared_match = refl;
  of_shared_match = refl;
  wrote = record {
    all = said_by_second;
    in_turn = ((tt, refl, refl), ((tt, refl, refl), tt));
    parting = None;
    receipts = refl;
    kept = refl;
    arrivals = refl;
    left = [];
    few = inl refl;
    said = refl;
    last = text_of Over;
    is_last = inr refl;
    unwritten = [];
    heard = refl;
    is_unwritten = refl;
    ends = (refl, refl);
  };
  none_more = λ between. absurd (cc);
}

-- ---- and what they played

first_bytes : first_heard ≡ first.written
unfolding bhs_wire_on_literals
first_bytes = refl

second_bytes : second_heard ≡ second.written
unfolding bhs_wire_on_literals
second_bytes = refl

not_stopped : Away ≡ Stopped → ⊥
not_stopped e = cc

played : (agent : ℕ) → agent < 2 → IsPlayedIn searched_triangle 0 explorers agent (clients agent)
played zero within = record {
  took = first_took;
  same = refl;
  own = refl;
  played = record {
    key = key;
    history = first_history;
    transcript = first_talked.transcript;
    talks = first_talked.talks;
    unread = [];
    read = sym first_talked.said_is;
    heard = first_talked.heard_is ∙ first_bytes;
    out = inl (inr refl);
  };
}
played (suc zero) within = record {
  took = second_took;
  same = refl;
  own = refl;
  played = record {
    key = key;
    history = Heard Over ∷ Heard Gone ∷ Heard (Here 2 None []) ∷ [];
    transcript = second_talked.transcript;
    talks = second_talked.talks;
    unread = [];
    read = sym second_talked.said_is;
    heard = second_talked.heard_is ∙ second_bytes;
    out = inr (refl, not_stopped);
  };
}
played (suc (suc agent)) within = absurd (omega (arith, within))

-- ---- the match and the team

all_done : (agent : ℕ) → agent < 2 → is_done searched_triangle agent ≡ true
all_done zero within = refl
all_done (suc zero) within = refl
all_done (suc (suc agent)) within = absurd (omega (arith, within))

waits_in : (agent : ℕ) (phase : Phase) (port : ℕ) → does_in agent phase ≡ Says (Depart port)
    → does_in agent (next_phase phase (Heard Gone)) ≡ Stops
waits_in agent Begins port is = absurd (cc)
waits_in agent Departs port is = refl
waits_in agent Goes port is = absurd (cc)
waits_in agent (Turns label) port is = refl
waits_in agent ComesBack port is = absurd (cc)
waits_in agent Accuses port is = absurd (cc)
waits_in agent Ends port is = absurd (cc)

set : IsSetOn searched_triangle.net searched_triangle.setup 2
set = standard_rings_are_set 3 2 searched_triangle.setup (omega arith) (record {
  three = omega arith;
  not_home = omega arith;
  within = omega arith;
  home = refl;
  holes = refl;
  dark = refl;
  agents = refl;
})

pub law_speaks : TheLawSpeaksOfIt
law_speaks = record {
  played = played;
  plain = record {
    labelled = set.network.labelled;
    kept = refl;
    short = (tt, (tt, (tt, (tt, (tt, (tt, (tt, (tt, (tt, (tt, tt))))))))));
    free = (tt, (tt, (refl, (tt, (tt, (refl, (tt, (refl, (tt, (tt, tt))))))))));
  };
  done = all_done;
  orderly = waiters_are_orderly (trial_in searched_triangle none_held 0 explorers) (λ agent. refl)
      (λ agent history port is. waits_in agent (phase_after history) port is);
  solves = (triangle_is_solved searched_triangle.net searched_triangle.setup 2 0 set refl (omega arith)).solves;
  rests = (triangle_is_solved searched_triangle.net searched_triangle.setup 2 0 set refl (omega arith)).rests;
}
