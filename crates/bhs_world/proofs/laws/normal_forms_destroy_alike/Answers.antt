use Rattle.std.proofs.Common.{Bool, ◌||◌, ap₂}
use Rattle.bhs_net.specs.Network.{far_of}
use Rattle.bhs_world.proofs.JudgeLemmas.{normal_holes, normal_dark}
use Rattle.bhs_world.proofs.laws.normal_forms_destroy_alike.Goals as goal

pub returns : goal.returns
returns c = λ net setup network within node port.
    ap₂ (λ (one two : Bool). one || two) (normal_holes net setup within (far_of net node port).0)
    (normal_dark net setup network.labelled within node port)
