-- The line that turns a client away. It gives the reason and is independent of all matches.
use Rattle.std.specs.Prelude.{ℕ, List, codes}
use Rattle.bhs_server.specs.declared.rejections.Rejection.{Rejection}
use Rattle.bhs_server.specs.declared.rejections.Rejection.TheVariants.{Full, Late, Memory}

-- with its line feed
abbrev pub rejection_line : Rejection → List ℕ
rejection_line Full = codes "{\"no\":\"full\"}\n"
rejection_line Late = codes "{\"no\":\"late\"}\n"
rejection_line Memory = codes "{\"no\":\"memory\"}\n"
