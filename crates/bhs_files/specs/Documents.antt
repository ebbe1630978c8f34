-- What both files begin with: a TOML document that says its version.
use Rattle.std.specs.Prelude.{ℕ, ◌&&◌, nat_le, codes, if◌then◌else◌, Option, Some, None, option_and_then, Result}
use Rattle.std.specs.Prelude.{Ok, Err}
use Rattle.toml.specs.Data.{Members, get_member}
use Rattle.bhs_files.specs.declared.faults.FileFault.{FileFault}
use Rattle.bhs_files.specs.declared.faults.FileFault.TheVariants.{Toml, Version}
use Rattle.bhs_files.specs.Shapes.{number}

-- the version of a file, and its table
abbrev pub Document : Type 0
Document = ℕ × Members

abbrev pub up_to : (latest : ℕ) → ℕ → Option ℕ
up_to latest version = if nat_le 1 version && nat_le version latest then Some version else None

-- the whole number at the key `version`, from 1 to the latest version
abbrev pub version_in : (latest : ℕ) → Members → Option ℕ
version_in latest members = option_and_then (up_to latest)
    (option_and_then number (get_member (codes "version") members))

abbrev pub versioned : Members → Option ℕ → Result Document FileFault
versioned table None = Err Version
versioned table (Some version) = Ok (version, table)

-- the document of a text, if its version is known
abbrev pub document_in : (latest : ℕ) → Option Members → Result Document FileFault
document_in latest None = Err Toml
document_in latest (Some members) = versioned members (version_in latest members)
