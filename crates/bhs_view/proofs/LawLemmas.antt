-- The laws of matches that have ended follow from those of the model.
use Rattle.std.proofs.Common.{ℕ, Option, List, take, sym, ap, ap₂, ◌∙◌}
use Rattle.bhs_model.specs.declared.replies.Reply.{Reply}
use Rattle.bhs_model.specs.Views.{View}
use Rattle.bhs_model.specs.InOrder.{replies_to}
use Rattle.bhs_model.specs.Replying.{reps}
use Rattle.bhs_model.specs.Marks.{events_of}
use Rattle.bhs_model.specs.Cuts.{at_places}
use Rattle.bhs_model.specs.Draws.{played}
use Rattle.bhs_model.proofs.CutLemmas.{closed_sets_stand_alone_lemma}
use Rattle.bhs_model.proofs.LeastCutLemmas.{cuts_are_least_lemma}
use Rattle.bhs_model.proofs.PastLemmas.{equal_pasts_lemma as model_pasts, replies_are_of_pasts_lemma}
use Rattle.bhs_model.proofs.SlowLemmas.{hole_looks_slow_lemma}
use Rattle.bhs_model.proofs.SufficeLemmas.{cuts_suffice_lemma}
use Rattle.bhs_model.proofs.TwinLemmas.{twins_look_alike_lemma as model_twins}
use Rattle.bhs_match.specs.Matches.{world_in}
use Rattle.bhs_view.specs.Laws.{CutsTellAll, EqualPastsAreAnsweredAlike, TwinsLookAlike, HolesLookSlow}
use Rattle.bhs_view.proofs.TwinPlayLemmas.{twins_alike}

pub cuts_tell_all_lemma : CutsTellAll
cuts_tell_all_lemma play agent ended = record {
  least = cuts_are_least_lemma (world_in play) (events_of play.log) agent;
  given = cuts_suffice_lemma (world_in play) (events_of play.log) agent;
  alone = λ places closed.
      closed_sets_stand_alone_lemma (world_in play) (events_of play.log) places closed
      ∙ ap (λ (replied : List (Option Reply)). at_places replied places) (sym ended.replies);
}

pub equal_pasts_lemma : EqualPastsAreAnsweredAlike
equal_pasts_lemma one two place other_place agent other quota board plays plays_too same =
    model_pasts (world_in one) (world_in two) (take place (events_of one.log)) (take other_place (events_of two.log))
    agent other quota board plays plays_too same

pub twins_look_alike_lemma : TwinsLookAlike
twins_look_alike_lemma whole twin node ended fits is_twin = twins_alike whole twin node ended fits is_twin

pub holes_look_slow_lemma : HolesLookSlow
holes_look_slow_lemma fast slow held still acts agent instead is_fast is_slow =
    let one = world_in fast in
    let two = world_in slow in
    let events = played one held acts in
    let others = played two still acts in
    let alike = model_twins one events two others (hole_looks_slow_lemma one held two still acts instead).twins in
    ap (replies_to one agent) (sym is_fast)
    ∙ replies_are_of_pasts_lemma one events agent
    ∙ ap₂ (λ (board : ℕ) (view : View). reps board view) instead.worlds.board (alike.pasts agent)
    ∙ sym (replies_are_of_pasts_lemma two others agent)
    ∙ ap (replies_to two agent) is_slow
