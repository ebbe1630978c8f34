-- Timed views: what an agent has met and at which turns, and with it the pasts that it has seen on whiteboards.
use Rattle.std.specs.Prelude.{ℕ, Bool, true, false, Option, if◌then◌else◌}
use Rattle.bhs_model.specs.declared.commands.Command.{Command}
use Rattle.bhs_model.specs.Views.{View, Start, Told, Arrived, Glance, Nothing, Saw, Sight, Seen, LastWrite, Unwritten}
use Rattle.bhs_model.specs.Views.{WrittenBy, Standing, Away, standing}

mutual
  -- the past of an agent with the turn of each step, its newest step outermost
  pub data TimedView : Type 0 where
    -- nothing yet
    Fresh : TimedView
    -- a command that was heard after this many turns, and what it showed
    ToldAt : TimedView → (turn : ℕ) → Command → TimedGlance → TimedView
    -- an arrival in the turn that follows this many turns, and what the agent saw
    ArrivedAt : TimedView → (turn : ℕ) → TimedSight → TimedView

  -- what a command showed: a node or nothing
  pub data TimedGlance : Type 0 where
    NothingThen : TimedGlance
    SawThen : TimedSight → TimedGlance

  -- a node as the agent saw it: its number of ports, the label by which the agent came, and the last write there
  pub data TimedSight : Type 0 where
    SeenThen : ℕ → Option ℕ → TimedWrite → TimedSight

  -- the last write at a node: the past of its writer, with the turns of all that the writer had met
  pub data TimedWrite : Type 0 where
    UnwrittenThen : TimedWrite
    WrittenThen : TimedView → TimedWrite

abbrev mutual
  -- the view of the model: the same past without its turns
  pub bare : TimedView → View
  bare Fresh = Start
  bare (ToldAt before turn command glance) = Told (bare before) command (bare_glance glance)
  bare (ArrivedAt before turn sight) = Arrived (bare before) (bare_sight sight)

  -- what a command showed, without turns
  pub bare_glance : TimedGlance → Glance
  bare_glance NothingThen = Nothing
  bare_glance (SawThen sight) = Saw (bare_sight sight)

  -- a node as the agent saw it, without turns
  pub bare_sight : TimedSight → Sight
  bare_sight (SeenThen ports came last_write) = Seen ports came (bare_write last_write)

  -- the last write at a node, without turns
  pub bare_write : TimedWrite → LastWrite
  bare_write UnwrittenThen = Unwritten
  bare_write (WrittenThen past) = WrittenBy (bare past)

-- whether an agent that stands like this is on a link
abbrev pub is_away : Standing → Bool
is_away Away = true
is_away standing = false

-- the turn of the newest step that the agent took while it was not on a link: for an agent on a link, the turn of its
-- departure
abbrev pub departed_at : TimedView → ℕ
departed_at Fresh = 0
departed_at (ToldAt before turn command glance) = if is_away (standing (bare before)) then departed_at before else turn
departed_at (ArrivedAt before turn sight) = turn
