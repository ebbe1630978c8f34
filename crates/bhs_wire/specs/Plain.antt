-- Bytes that JSON does not escape, and a line of Write that is spelled with them alone. Only contracts of private
-- functions cite it.
use Rattle.std.specs.Prelude.{◌≡◌, ℕ, List, ◌++◌, Bool, true, ◌&&◌, ◌==◌, not, nat_lt, codes}
use Rattle.std.specs.List.{list_all}

abbrev pub is_plain : ℕ → Bool
is_plain byte = nat_lt 31 byte && (not (byte == 34) && not (byte == 92))

-- The line has no space outside its texts, and its texts contain no escape.
pub record IsPlainWrite (line expect put : List ℕ) : Type 0 where
  pub spelled : line ≡ codes "{\"do\":\"write\",\"expect\":\"" ++ (expect
      ++ (codes "\",\"put\":\"" ++ (put ++ codes "\"}")))
  pub expect_plain : list_all is_plain expect ≡ true
  pub put_plain : list_all is_plain put ≡ true
