-- Faults of parts.
use Rattle.std.proofs.Common.{◌≡◌, Result, Err}
use Rattle.bhs_files.specs.declared.faults.FileFault.{FileFault}
use Rattle.bhs_files.specs.declared.faults.FileFault.TheVariants.{Toml, Version, Unknown, Missing, Shape, Net, Setup}
use Rattle.bhs_files.specs.declared.faults.FileFault.TheVariants.{KeyTwice, Held, Memory}
use Rattle.bhs_files.specs.Reading.{Fails}

-- A fault of a part becomes the fault of the whole.
pub fails_with : {A B : Type 0} (fault : FileFault) (part : Result A FileFault) (whole : Result B FileFault)
    → (part ≡ Err fault → whole ≡ Err fault) → Fails fault part → Fails fault whole
fails_with Memory part whole f h = tt
fails_with Toml part whole f h = f h
fails_with Version part whole f h = f h
fails_with (Unknown game) part whole f h = f h
fails_with (Missing game key) part whole f h = f h
fails_with (Shape game key) part whole f h = f h
fails_with (Net fault) part whole f h = f h
fails_with (Setup game fault) part whole f h = f h
fails_with (KeyTwice game agent) part whole f h = f h
fails_with (Held game index) part whole f h = f h
