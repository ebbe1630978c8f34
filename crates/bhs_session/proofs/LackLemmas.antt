-- However a session ended, nothing may be unwritten of it.
use Rattle.std.proofs.Common.{[], refl}
use Rattle.bhs_session.specs.declared.endings.Ended.{Ended as Ending}
use Rattle.bhs_session.specs.declared.endings.Ended.TheVariants as endings
use Rattle.bhs_session.specs.Answering.{MayLack}

pub lacks_none : (ended : Ending) → MayLack ended []
lacks_none endings.Bye = refl
lacks_none endings.Noted = refl
lacks_none endings.Over = refl
lacks_none endings.Denied = refl
lacks_none endings.InputEnded = refl
lacks_none endings.ReadFault = refl
lacks_none endings.WriteFault = tt
lacks_none endings.Memory = tt
lacks_none endings.Turns = refl
