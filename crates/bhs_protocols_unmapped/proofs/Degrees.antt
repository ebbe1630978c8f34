-- Handshake lemma: every link has two ports. The ports of one node and those of all remaining nodes make up the
-- network's ports.
use Rattle.std.proofs.Common.{ℕ, ◌+◌, ◌*◌, ◌<◌, ◌≤◌, ◌≡◌, [], length, ◌∙◌}
use Rattle.std.proofs.Common.{arith}
use Rattle.std.specs.Prelude.{◌%◌}
use Rattle.std.proofs.lemmas.List.Sums.{sum_by-take-drop, sum_by-drop_more}
use Rattle.bhs_net.specs.Network.{Network, nodes_of, degree_of, ports_of}
use Rattle.bhs_net.proofs.Counts.{ports_of-links}
use Rattle.bhs_protocols_unmapped.proofs.RingsAlone.{two_links}
use Rattle.bhs_protocols_unmapped.specs.Degrees.{ports_beside, LinksTell, ParityTells}

pub all_ports : (net : Network) (node : ℕ) → node < nodes_of net
    → degree_of net node + ports_beside net node ≡ ports_of net
all_ports net node within =
    let halves = sum_by-take-drop length net node in
    let there = sum_by-drop_more length net node [] within in
    omega (arith, halves, there)

pub links_tell : LinksTell
links_tell net links node is made_of within =
    all_ports net node within ∙ ports_of-links net links is.labelled made_of

-- a number and an even one that make two or three of an even one
pub parity : (few rest half : ℕ) → 2 ≤ few → few ≤ 3 → few + rest ≡ 2 * half → few ≡ 2 + rest % 2
parity few rest half least most all = omega arith

pub parity_tells : ParityTells
parity_tells net links node is made_of within most =
    parity (degree_of net node) (ports_beside net node) (length links) (two_links net is node within) most
    (links_tell net links node is made_of within)
