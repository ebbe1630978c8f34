-- Texts that go out piece by piece, and that a fault ends.
use Rattle.std.proofs.Common.{◌≡◌, inr, OnOk, IfOk, IfErr, IsErrAnd, ℕ, List, ◌∷◌, ◌++◌, refl, sym, subst, Result, Ok}
use Rattle.std.proofs.Common.{Err, None, Some, Bool, true, false, nat_lt, length, if◌then◌else◌, ◌∙◌, ap, append-nil}
use Rattle.std.proofs.Common.{◌+◌, ◌<◌, map, drop, get_or}
use Rattle.std.proofs.lemmas.List.{drop_more}
use Rattle.bhs_stream.specs.Streams.{WriteAnswer}
use Rattle.bhs_stream.proofs.PutsLemmas.{IsSentUpTo, sent_part, sent_some}
use Rattle.bhs_cli.specs.Playing.{StopsPlaying}
use Rattle.bhs_cli.specs.declared.reporting.faults.Fault.{Fault}
use Rattle.bhs_cli.specs.declared.reporting.faults.Fault.TheVariants.{Read, Text, Line, File, Replay, Twin, Write}
use Rattle.bhs_cli.specs.declared.reporting.faults.Fault.TheVariants.{Memory}
use Rattle.bhs_cli.specs.declared.reporting.faults.Fault.TheVariants.{Turns, Listen, Busy, Threads, Unsettled}
use Rattle.bhs_cli.specs.declared.reporting.faults.Fault.TheVariants.{Modules, NoMatch}
use Rattle.bhs_cli.specs.declared.reporting.faults.Fault.TheVariants.{Exploring, Appeal}

-- a fault at the next bytes of a text
pub stopped_at : {O : Type 0} (takes : O → List ℕ → WriteAnswer → O → Type 0) (a b c : O)
    (text bytes left : List ℕ) (fault : Fault)
    → IsSentUpTo takes a b text (bytes ++ left) → StopsPlaying takes bytes b c fault → StopsPlaying takes text a c fault
stopped_at takes a b c text bytes left Write so_far part = sent_part takes a b c text bytes left so_far part
stopped_at takes a b c text bytes left Memory so_far (count, some) =
    sent_some takes a b c text bytes left count so_far some
stopped_at takes a b c text bytes left Read so_far none = absurd none
stopped_at takes a b c text bytes left Text so_far none = absurd none
stopped_at takes a b c text bytes left (Line line) so_far none = absurd none
stopped_at takes a b c text bytes left Turns so_far none = absurd none
stopped_at takes a b c text bytes left (File fault) so_far none = absurd none
stopped_at takes a b c text bytes left (Replay fault) so_far none = absurd none
stopped_at takes a b c text bytes left (Twin fault) so_far none = absurd none
stopped_at takes a b c text bytes left Listen so_far none = absurd none
stopped_at takes a b c text bytes left Busy so_far none = absurd none
stopped_at takes a b c text bytes left Threads so_far none = absurd none
stopped_at takes a b c text bytes left (NoMatch game) so_far none = absurd none
stopped_at takes a b c text bytes left (Modules modules agents) so_far none = absurd none
stopped_at takes a b c text bytes left (Exploring why) so_far none = absurd none
stopped_at takes a b c text bytes left (Appeal why) so_far none = absurd none
stopped_at takes a b c text bytes left (Unsettled game) so_far none = absurd none

-- The operator `?` passes on exactly this fault.
pub fault_is : {T : Type 0} (r : Result T Fault) (fault : Fault) (P : Fault → Type 0) → IsErrAnd r (λ e. e ≡ fault)
    → P fault → IfErr r P
fault_is (Ok x) fault P is holds = tt
fault_is (Err e) fault P is holds = subst P (sym is) holds
