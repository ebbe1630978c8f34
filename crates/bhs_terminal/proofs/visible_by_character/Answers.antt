use Rattle.std.proofs.Common.{◌≡◌, ℕ, ◌+◌, ◌<◌, List, [], ◌∷◌, length, get_or, drop, sym, ap, ◌++◌, ◌∙◌, append_assoc}
use Rattle.std.proofs.Common.{append-nil, arith}
use Rattle.std.proofs.lemmas.Iterator.{YieldsList-from_chars}
use Rattle.std.proofs.lemmas.List.{at_drop_more, at_drop_all, length_push}
use Rattle.std.proofs.lemmas.Iterator.Consumers.{YieldsList-turn, YieldsList-end}
use Rattle.std.specs.String.{string_bytes}
use Rattle.std.specs.Str.{chars}
use Rattle.bhs_terminal.specs.Visible.{visible_all, visible_character}
use Rattle.bhs_terminal.proofs.visible_by_character.Goals as goal

visible_all-drop : (cs : List ℕ) (n c : ℕ) → (n < length cs) × (c ≡ get_or cs n c)
    → visible_all (drop n cs) ≡ visible_character c ++ visible_all (drop (n + 1) cs)
visible_all-drop cs n c h =
    at_drop_more visible_all cs n c h.0 ∙ ap (λ x. visible_character x ++ visible_all (drop (n + 1) cs)) (sym h.1)

-- one character more is shown
goes_on : (shown shown' cs ys : List ℕ) (c : ℕ) → shown ++ visible_all (drop (length ys) cs) ≡ visible_all cs
    → (length ys < length cs) × (c ≡ get_or cs (length ys) c) → shown' ≡ shown ++ visible_character c
    → shown' ++ visible_all (drop (length (ys ++ c ∷ [])) cs) ≡ visible_all cs
goes_on shown shown' cs ys c before turn more =
    let others = visible_all (drop (length ys + 1) cs) in
    let e = visible_all-drop cs (length ys) c turn in
    rw (length_push ys c, more)
    (append_assoc shown (visible_character c) others ∙ (ap (λ x. shown ++ x) (sym e) ∙ before))

pub loop-character-preserved : goal.loop-character-preserved
loop-character-preserved c =
    goes_on _ _ _ c.loop-character.yielded c.in-Some.character c.loop-character.invariant
    (YieldsList-turn (YieldsList-from_chars c.args.text.now c.utf8.text cc) c.loop-character.yielded _
    c.loop-character.yielded_by _ _ c.in-Some.character c.in-Some.is c.next.ensures.steps)
    c.in_ok-push.ensures

pub returns : goal.returns
returns c =
    let end = YieldsList-end (YieldsList-from_chars c.args.text.now c.utf8.text cc) c.loop-character.yielded _
    c.loop-character.yielded_by _ _ c.in-None.is c.next.ensures.steps in
    let none = at_drop_all visible_all (chars c.args.text.now) (length c.loop-character.yielded)
    (omega (arith, end.1)) in
    sym (append-nil _) ∙ (ap (λ x. string_bytes c.loop-character.shown ++ x) (sym none) ∙ c.loop-character.invariant)
