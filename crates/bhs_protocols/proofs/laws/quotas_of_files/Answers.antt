use Rattle.bhs_protocols.proofs.QuotaLemmas.{halves_have_their_quota, shuttles_have_their_quota}
use Rattle.bhs_protocols.proofs.laws.quotas_of_files.Goals as goal

pub returns : goal.returns
returns c = record { halves = halves_have_their_quota; shuttle = shuttles_have_their_quota }
