use Rattle.bhs_wasm_read.proofs.bytes.Bytes.+signed.Given as goal

abbrev pub decreases-signed : goal.decreases-signed
decreases-signed l = l.bits
