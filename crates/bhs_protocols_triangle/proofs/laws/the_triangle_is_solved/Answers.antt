use Rattle.bhs_protocols_triangle.proofs.TriangleLemmas.{triangle_is_solved}
use Rattle.bhs_protocols_triangle.proofs.laws.the_triangle_is_solved.Goals as goal

pub returns : goal.returns
returns c = triangle_is_solved
