use Rattle.bhs_wasm_read.proofs.bytes.Bytes.+unsigned.Given as goal

abbrev pub decreases-unsigned : goal.decreases-unsigned
decreases-unsigned l = l.bits
