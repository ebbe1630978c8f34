use Rattle.std.proofs.Common.{◌≡◌, ◌++◌, ◌∙◌, ℕ, List, Vec, Global, codes, append_assoc, ap, sym, decimal}
use Rattle.bhs_model.specs.declared.replies.Reply.{Reply}
use Rattle.bhs_wire.specs.LentReply.{reply_of}
use Rattle.bhs_wire.specs.Reply.{line}
use Rattle.bhs_schedules.specs.declared.answers.Latest.{Latest}
use Rattle.bhs_schedules.specs.Dialogues.{item_with, reply_with}
use Rattle.bhs_cli_explore.specs.HostAnswers.{next_question}
use Rattle.bhs_cli_explore.proofs.hosts.ask_line.Goals as goal

-- regroups the concatenated parts of a question
regrouped : (front number more end : List ℕ) → ((front ++ number ++ codes ",") ++ more) ++ end
    ≡ front ++ number ++ codes "," ++ more ++ end
regrouped front number more end = simp append_assoc

joined : (whole text begun front number more end : List ℕ) → whole ≡ text ++ end → text ≡ begun ++ more
    → begun ≡ front ++ number ++ codes "," → whole ≡ front ++ number ++ codes "," ++ more ++ end
joined whole text begun front number more end is_whole is_text is_begun =
    is_whole ∙ ap (λ (xs : List ℕ). xs ++ end) (is_text ∙ ap (λ (xs : List ℕ). xs ++ more) is_begun)
    ∙ regrouped front number more end

pub returns : goal.returns
returns c =
    let begun = c.in_ok-text.ensures.items ∙ c.as_bytes.ensures.value ∙ c.in_ok-line.ensures.ok in
    let front : List ℕ = codes "{\"ask\":" in
    let number : List ℕ = decimal c.args.before in
    elim c.match-latest.branch [
      | goal.in-Woke+in_ok-extend_from_slice-in-Woke w ↦
          joined c.extend_from_slice-2.new.self.items c.match-latest.text.items c.in_ok-text.text.items front number
          (codes "\"wakes\":true") (codes "}\n") c.in_ok-extend_from_slice.ensures.items
          (ap (λ (v : Vec ℕ Global). v.items) w.text-is ∙ w.in_ok-extend_from_slice-in-Woke.ensures.items) begun
          ∙ sym (ap (λ (l : Latest). next_question c.args.before (item_with l c.args.shown.now)) w.in-Woke.is)
      | goal.in-Heard+in_ok-extend_from_slice-in-Heard+in_ok-push_line-in-Heard w ↦
          let reply : List ℕ = line (reply_with w.in-Heard.mark c.args.shown.now) in
          joined c.extend_from_slice-2.new.self.items c.match-latest.text.items c.in_ok-text.text.items front number
          (codes "\"hears\":" ++ reply) (codes "}\n") c.in_ok-extend_from_slice.ensures.items
          (ap (λ (v : Vec ℕ Global). v.items) w.text-is ∙ w.in_ok-push_line-in-Heard.ensures.line
          ∙ ap (λ (xs : List ℕ). xs ++ line (reply_of w.lent_reply.result))
          w.in_ok-extend_from_slice-in-Heard.ensures.items
          ∙ append_assoc c.in_ok-text.text.items (codes "\"hears\":") (line (reply_of w.lent_reply.result))
          ∙ ap (λ (it : Reply). c.in_ok-text.text.items ++ (codes "\"hears\":" ++ line it)) w.lent_reply.ensures) begun
          ∙ sym (ap (λ (l : Latest). next_question c.args.before (item_with l c.args.shown.now)) w.in-Heard.is)
    ]
