-- The talk of a client, oldest first, as the bytes that it said and heard.
use Rattle.std.proofs.Common.{ℕ, ◌≤◌, ◌≡◌, ◌∙◌, Some, false, List, [], ◌∷◌, ◌++◌, refl, sym, ap, subst}
use Rattle.std.proofs.Common.{append_assoc, append-nil}
use Rattle.std.specs.List.{list_any}
use Rattle.bhs_model.specs.declared.commands.Command.{Command}
use Rattle.bhs_model.specs.declared.replies.Reply.{Reply}
use Rattle.bhs_model.specs.declared.replies.Reply.TheVariants.{Over}
use Rattle.bhs_wire.specs.Lines.{is_line_feed}
use Rattle.bhs_schedules.specs.declared.answers.Step.{Step}
use Rattle.bhs_schedules.specs.declared.answers.Step.TheVariants.{Says, Sleeps, Stops, Fails}
use Rattle.bhs_schedules.specs.Strategies.{History, Observation, Heard, Woke, Strategy}
use Rattle.bhs_client.specs.ReplyLines.{reply_on}
use Rattle.bhs_client.specs.Talks.{IsLineOf, Says as SaysTo, Meets, speaks, sleeps, sleeps_on, Talks, begins}
use Rattle.bhs_client.specs.Talks.{goes_on}
use Rattle.bhs_client.specs.Transcripts.{Transcript, unused, Writes, Reads}
use Rattle.bhs_agents.specs.WakeUps.{wake_ups_in}

-- what an agent says that does this next
pub record IsLineSaid (key : List ℕ) (command : Command) (own : List ℕ) : Type 0 where
  pub line : List ℕ
  pub is_line : IsLineOf key command line
  pub is : own ≡ line ++ 10 ∷ []

-- the bytes that an agent writes before it hears this reply; one that sleeps hears only that the match is over
abbrev pub IsOwn : (key : List ℕ) → Reply → Step → (own : List ℕ) → Type 0
IsOwn key reply (Says command) own = IsLineSaid key command own
IsOwn key reply Stops own = own ≡ []
IsOwn key reply Sleeps own = (own ≡ []) × (reply ≡ Over)
IsOwn key reply Fails own = ⊥

-- one exchange of a talk: what the agent writes, the line that it reads, and the rest
pub record IsAnswered (key : List ℕ) (step : Step) (reply : Reply) (said heard : List ℕ)
    (Others : (said heard : List ℕ) → Type 0) : Type 0 where
  pub own : List ℕ
  pub is_own : IsOwn key reply step own
  pub line : List ℕ
  pub flat : list_any is_line_feed line ≡ false
  pub reads : reply_on line ≡ Some reply
  pub more : List ℕ
  pub rest : List ℕ
  pub said_is : said ≡ own ++ more
  pub heard_is : heard ≡ line ++ 10 ∷ rest
  pub others : Others more rest

-- the observations of an agent with this history, the oldest first, while it says and hears these bytes
abbrev pub Speaks : (wakeups : ℕ) → Strategy → (key : List ℕ) → History → List Observation → (said heard : List ℕ)
    → Type 0
Speaks wakeups strategy key history [] said heard = (said ≡ []) × (heard ≡ [])
Speaks wakeups strategy key history (Woke ∷ items) said heard =
    (strategy history ≡ Sleeps) × ((wake_ups_in history).in_a_row ≤ wakeups)
    × Speaks wakeups strategy key (Woke ∷ history) items said heard
Speaks wakeups strategy key history (Heard reply ∷ items) said heard =
    IsAnswered key (strategy history) reply said heard (Speaks wakeups strategy key (Heard reply ∷ history) items)

abbrev pub after_all : History → List Observation → History
after_all history [] = history
after_all history (item ∷ items) = after_all (item ∷ history) items

after_more : (history : History) (items : List Observation) (item : Observation)
    → after_all history (items ++ item ∷ []) ≡ item ∷ after_all history items
after_more history [] item = refl
after_more history (first ∷ items) item = after_more (first ∷ history) items item

-- one more observation
speaks_on : (wakeups : ℕ) (strategy : Strategy) (key : List ℕ) (item : Observation) (own back : List ℕ)
    (items : List Observation)
    (history : History) (said heard : List ℕ)
    → Speaks wakeups strategy key (after_all history items) (item ∷ []) own back
    → Speaks wakeups strategy key history items said heard
    → Speaks wakeups strategy key history (items ++ item ∷ []) (said ++ own) (heard ++ back)
speaks_on wakeups strategy key item own back [] history said heard step spoken =
    subst (λ (bytes : List ℕ). Speaks wakeups strategy key history (item ∷ []) (bytes ++ own) (heard ++ back))
    (sym spoken.0)
    (subst (λ (bytes : List ℕ). Speaks wakeups strategy key history (item ∷ []) own (bytes ++ back)) (sym spoken.1)
    step)
speaks_on wakeups strategy key item own back (Woke ∷ items) history said heard step spoken = (
  spoken.0,
  spoken.1,
  speaks_on wakeups strategy key item own back items (Woke ∷ history) said heard step spoken.2,
)
speaks_on wakeups strategy key item own back (Heard reply ∷ items) history said heard step spoken = record {
  own = spoken.own;
  is_own = spoken.is_own;
  line = spoken.line;
  flat = spoken.flat;
  reads = spoken.reads;
  more = spoken.more ++ own;
  rest = spoken.rest ++ back;
  said_is = ap (λ (bytes : List ℕ). bytes ++ own) spoken.said_is ∙ append_assoc spoken.own spoken.more own;
  heard_is = ap (λ (bytes : List ℕ). bytes ++ back) spoken.heard_is
      ∙ append_assoc spoken.line (10 ∷ spoken.rest) back;
  others = speaks_on wakeups strategy key item own back items (Heard reply ∷ history) spoken.more spoken.rest step
      spoken.others;
}

-- ---- what one step adds

record Adds (wakeups : ℕ) (strategy : Strategy) (key : List ℕ) (history : History) (item : Observation)
    (here next : Transcript) : Type 0 where
  own : List ℕ
  back : List ℕ
  said : next.said ≡ here.said ++ own
  heard : next.heard ≡ here.heard ++ back
  speaks_it : Speaks wakeups strategy key history (item ∷ []) own back

record AddsOwn (key : List ℕ) (reply : Reply) (step : Step) (here told : Transcript) : Type 0 where
  own : List ℕ
  is_own : IsOwn key reply step own
  said : told.said ≡ here.said ++ own
  heard : told.heard ≡ here.heard

adds_own : (key : List ℕ) (reply : Reply) (step : Step) (here told : Transcript) → SaysTo Writes key step here told
    → AddsOwn key reply step here told
adds_own key reply (Says command) here told says = record {
  own = says.0 ++ 10 ∷ [];
  is_own = record { line = says.0; is_line = says.1; is = refl };
  said = ap (λ (transcript : Transcript). transcript.said) says.2;
  heard = ap (λ (transcript : Transcript). transcript.heard) says.2;
}
adds_own key reply Stops here told says = record {
  own = [];
  is_own = refl;
  said = sym (ap (λ (transcript : Transcript). transcript.said) says) ∙ sym (append-nil here.said);
  heard = sym (ap (λ (transcript : Transcript). transcript.heard) says);
}
adds_own key reply Sleeps here told says = absurd says
adds_own key reply Fails here told says = absurd says

adds : (wakeups : ℕ) (strategy : Strategy) (key : List ℕ) (history : History) (here : Transcript) (item : Observation)
    (next : Transcript)
    → Meets Writes Reads key wakeups (wake_ups_in history).in_a_row (strategy history) here item next
    → Adds wakeups strategy key history item here next
adds wakeups strategy key history here item next (speaks reply told new says hears) =
    let spoken = adds_own key reply (strategy history) here told says in
    record {
      own = spoken.own;
      back = hears.0 ++ 10 ∷ [];
      said = ap (λ (transcript : Transcript). transcript.said) hears.2.1 ∙ spoken.said;
      heard = ap (λ (transcript : Transcript). transcript.heard) hears.2.1
          ∙ ap (λ (bytes : List ℕ). bytes ++ (hears.0 ++ 10 ∷ [])) spoken.heard;
      speaks_it = record {
        own = spoken.own;
        is_own = spoken.is_own;
        line = hears.0;
        flat = hears.2.0;
        reads = hears.1;
        more = [];
        rest = [];
        said_is = sym (append-nil spoken.own);
        heard_is = refl;
        others = (refl, refl);
      };
    }
adds wakeups strategy key history here item next (sleeps is few) = record {
  own = [];
  back = [];
  said = sym (append-nil here.said);
  heard = sym (append-nil here.heard);
  speaks_it = (is, few, (refl, refl));
}
adds wakeups strategy key history here item next (sleeps_on new is many hears) = record {
  own = [];
  back = hears.0 ++ 10 ∷ [];
  said = ap (λ (transcript : Transcript). transcript.said) hears.2.1 ∙ sym (append-nil here.said);
  heard = ap (λ (transcript : Transcript). transcript.heard) hears.2.1;
  speaks_it = record {
    own = [];
    is_own = subst (λ (step : Step). IsOwn key Over step []) (sym is) (refl, refl);
    line = hears.0;
    flat = hears.2.0;
    reads = hears.1;
    more = [];
    rest = [];
    said_is = refl;
    heard_is = refl;
    others = (refl, refl);
  };
}

-- ---- the whole talk

pub record IsSpoken (wakeups : ℕ) (strategy : Strategy) (key : List ℕ) (history : History) (transcript : Transcript)
    : Type 0 where
  pub items : List Observation
  pub is : after_all [] items ≡ history
  pub speaks_all : Speaks wakeups strategy key [] items transcript.said transcript.heard

pub spoken : (wakeups : ℕ) (strategy : Strategy) (key : List ℕ) (history : History) (transcript : Transcript)
    → Talks Writes Reads wakeups strategy key unused history transcript
    → IsSpoken wakeups strategy key history transcript
spoken wakeups strategy key history transcript begins = record { items = []; is = refl; speaks_all = (refl, refl) }
spoken wakeups strategy key history transcript (goes_on old item here next talks meets) =
    let before = spoken wakeups strategy key old here talks in
    let step = adds wakeups strategy key old here item next meets in
    record {
      items = before.items ++ item ∷ [];
      is = after_more [] before.items item ∙ ap (λ (past : History). item ∷ past) before.is;
      speaks_all = subst (λ (bytes : List ℕ). Speaks wakeups strategy key [] (before.items ++ item ∷ []) bytes
          next.heard)
          (sym step.said)
          (subst (λ (bytes : List ℕ). Speaks wakeups strategy key [] (before.items ++ item ∷ []) (here.said ++ step.own)
          bytes)
          (sym step.heard)
          (speaks_on wakeups strategy key item step.own step.back before.items [] here.said here.heard
          (subst (λ (past : History). Speaks wakeups strategy key past (item ∷ []) step.own step.back) (sym before.is)
          step.speaks_it) before.speaks_all));
    }
