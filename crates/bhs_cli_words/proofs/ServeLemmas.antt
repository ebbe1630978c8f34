-- What `serve` makes of its plainest words.
use Rattle.std.proofs.Common.{◌≡◌, ◌∙◌, ap, ap₂, refl, false, codes, List, [], ◌∷◌, Some}
use Rattle.std.specs.Prelude.{option_and_then, option_map}
use Rattle.clap.specs.Words.{Row, Shape, Text}
use Rattle.clap.specs.Kinds.{Kinds, or_else}
use Rattle.clap.specs.Simple.{entered}
use Rattle.clap.specs.Walk.{Walk, finished, idle, nothing_held, option, settled_rows, walk_from}
use Rattle.clap.proofs.OnLiterals.{clap_on_literals}
use Rattle.bhs_cli_words.proofs.NumberLemmas.{ArePlain}
use Rattle.bhs_cli_words.proofs.ReadLemmas.{Enters, Reads, between, end_fault, leaf_of, line, line_fault, order_read}
use Rattle.bhs_cli_words.proofs.ReadLemmas.{passed, passed_whole, read_plain, reads_more, reads_none}
use Rattle.bhs_cli_words.specs.Serving.{hosting_in, plain_words, serve}
use Rattle.bhs_cli_words.specs.CommandLine.{command_in, faults, is_dashed, order_by}
use Rattle.bhs_cli_words.specs.declared.orders.Order.TheVariants.{Serve}

abbrev leaf : Shape
leaf = leaf_of serve

serve_enters : Enters (codes "serve") leaf
unfolding clap_on_literals
serve_enters = record {
  takes = λ rest none. ap₂ line_fault (passed_whole (codes "serve") rest) (passed (codes "serve") rest)
      ∙ ap (λ (kinds : Kinds). or_else kinds []) none;
  finds = λ rest. ap (λ (w : Walk). entered line w.stopped) (passed (codes "serve") rest);
}

-- ---- the words of `serve`

-- what is found once these words were read, each with its id, the last first
abbrev found_by : List (Text × Text) → List Row
found_by [] = []
found_by ((id, word) ∷ before) = settled_rows leaf.rules (Some (id, word ∷ [])) (found_by before)

module _ (name port sessions turns pause prefix : Text) where
  abbrev own_words : List Text
  own_words = name ∷ codes "--port" ∷ port ∷ codes "--sessions" ∷ sessions ∷ codes "--turns" ∷ turns
      ∷ codes "--pause" ∷ pause ∷ codes "--replay" ∷ prefix ∷ []

  -- where the walk stands behind the last word
  abbrev end : Walk
  end = between (record {
    rows = found_by ((codes "pause", pause) ∷ (codes "turns", turns) ∷ (codes "sessions", sessions)
        ∷ (codes "port", port) ∷ (codes "tournament", name) ∷ []);
    pending = Some (codes "prefix", prefix ∷ []);
    skip = 0;
  }) idle 2

  words_read : is_dashed name ≡ false → is_dashed prefix ≡ false → ArePlain port sessions turns pause
      → Reads leaf (walk_from nothing_held) own_words end
  unfolding clap_on_literals
  words_read plain also numbers =
      reads_more (read_plain leaf _ 1 idle name plain refl)
      (reads_more (record { faultless = refl; goes = refl })
      (reads_more (read_plain leaf _ 2 (option (codes "port")) port numbers.first refl)
      (reads_more (record { faultless = refl; goes = refl })
      (reads_more (read_plain leaf _ 2 (option (codes "sessions")) sessions numbers.second refl)
      (reads_more (record { faultless = refl; goes = refl })
      (reads_more (read_plain leaf _ 2 (option (codes "turns")) turns numbers.third refl)
      (reads_more (record { faultless = refl; goes = refl })
      (reads_more (read_plain leaf _ 2 (option (codes "pause")) pause numbers.fourth refl)
      (reads_more (record { faultless = refl; goes = refl })
      (reads_more (read_plain leaf _ 2 (option (codes "prefix")) prefix also refl) (reads_none leaf end)))))))))))

  end_faultless : end_fault leaf end ≡ []
  unfolding clap_on_literals
  end_faultless = refl

  end_ordered : order_by (codes "serve", finished leaf.rules end.held) ≡ option_map (Serve name)
      (hosting_in (plain_words port sessions turns pause prefix))
  unfolding clap_on_literals
  end_ordered = refl

  pub serve_found : is_dashed name ≡ false → is_dashed prefix ≡ false → ArePlain port sessions turns pause
      → (faults (codes "serve" ∷ own_words) ≡ [])
      × (option_and_then order_by (command_in (codes "serve" ∷ own_words)) ≡ option_map (Serve name)
      (hosting_in (plain_words port sessions turns pause prefix)))
  serve_found plain also numbers =
      order_read serve_enters own_words end _ (words_read plain also numbers) end_faultless end_ordered
