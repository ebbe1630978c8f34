use Rattle.bhs_world.proofs.AgreeLemmas.{step_played, step_same}
use Rattle.bhs_world.proofs.worlds.World.step.Goals as goal

pub returns-clause-reply : goal.returns-clause-reply
returns-clause-reply c =
    (step_played _ _ _ _ _ c.play_event.ensures.mark c.play_event.ensures.world c.play_event.ensures.sound
    c.requires.stands).reply

pub returns-clause-stands : goal.returns-clause-stands
returns-clause-stands c =
    (step_played _ _ _ _ _ c.play_event.ensures.mark c.play_event.ensures.world c.play_event.ensures.sound
    c.requires.stands).stands

pub returns-clause-shown : goal.returns-clause-shown
returns-clause-shown c =
    (step_played _ _ _ _ _ c.play_event.ensures.mark c.play_event.ensures.world c.play_event.ensures.sound
    c.requires.stands).shown

pub returns-clause-same : goal.returns-clause-same
returns-clause-same c = step_same c.args.self.now _ c.args.log.now c.args.event.now c.play_event.ensures.world
