-- The questions to a host and its answers, as the bytes that were written and read.
use Rattle.std.specs.Prelude.{◌≡◌, ℕ, Bool, true, false, Some, List, [], ◌∷◌, ◌++◌, codes, decimal}
use Rattle.std.specs.Str.Parse.{IsNumeral, digits_value, without_leading_plus}
use Rattle.bhs_model.specs.declared.commands.Command.{Command}
use Rattle.bhs_model.specs.declared.commands.Command.TheVariants as commands
use Rattle.bhs_wire.specs.declared.commands.First.{First}
use Rattle.bhs_wire.specs.declared.commands.First.TheVariants as firsts
use Rattle.bhs_wire.specs.First.{says}
use Rattle.bhs_wire.specs.Reply.{line}
use Rattle.bhs_stream.specs.Reading.{Gathers}
use Rattle.bhs_stream.specs.Sending.{PutsAll}
use Rattle.bhs_stream.specs.Streams.{Chunk, WriteAnswer}
use Rattle.bhs_schedules.specs.declared.answers.Step.{Step}
use Rattle.bhs_schedules.specs.declared.answers.Step.TheVariants.{Says, Sleeps, Stops, Fails}
use Rattle.bhs_schedules.specs.Strategies.{Observation, Heard, Woke}
use Rattle.bhs_schedules.specs.Dialogues.{QuestionAnswer, Begins, GoesOn}
use Rattle.bhs_cli_explore.specs.declared.hosts.Host.{Host}
use Rattle.bhs_cli_explore.specs.declared.hosts.Does.{Does}
use Rattle.bhs_cli_explore.specs.declared.hosts.Does.TheVariants as words

-- what a question says has happened
abbrev pub happened : Observation → List ℕ
happened Woke = codes "\"wakes\":true"
happened (Heard reply) = codes "\"hears\":" ++ line reply

-- the line of a question: it asks for the first memory of an agent, or for the memory after an observation, given the
-- one before
abbrev pub begin_question : (agent : ℕ) → List ℕ
begin_question agent = codes "{\"begin\":" ++ decimal agent ++ codes "}\n"

abbrev pub next_question : (before : ℕ) → Observation → List ℕ
next_question before item = codes "{\"ask\":" ++ decimal before ++ codes "," ++ happened item ++ codes "}\n"

-- what follows a space in a line, and the number that stands before the space
pub record IsNumbered (text : List ℕ) (number : ℕ) (word : List ℕ) : Type 0 where
  pub numeral : List ℕ
  pub parted : text ≡ numeral ++ 32 ∷ word
  pub is_numeral : IsNumeral 10 (without_leading_plus numeral)
  pub value : digits_value 10 (without_leading_plus numeral) ≡ number

-- the word for what a program does next
abbrev pub word_of : Does → List ℕ
word_of words.Says = codes "says"
word_of words.Sleeps = codes "sleeps"
word_of words.Stops = codes "stops"
word_of words.Fails = codes "fails"

-- the command that a client's line says, as a server takes it
abbrev pub command_by : First → Command
command_by (firsts.Enter key) = commands.Enter
command_by (firsts.Tell command) = command

abbrev pub IsCommand : (said : List ℕ) → Command → Type 0
IsCommand said command = (first : First) × (says said ≡ Some first) × (command ≡ command_by first)

-- These bytes are an answer: a line with a memory and the step of a program in that memory, and the line of its command
-- if the step says one.
abbrev pub IsAnswer : (text : List ℕ) → (memory : ℕ) → Step → Type 0
IsAnswer text memory (Says command) = (first said : List ℕ) × IsNumbered first memory (codes "says")
    × IsCommand said command × (text ≡ first ++ 10 ∷ (said ++ 10 ∷ []))
IsAnswer text memory Sleeps = (first : List ℕ) × IsNumbered first memory (codes "sleeps") × (text ≡ first ++ 10 ∷ [])
IsAnswer text memory Stops = (first : List ℕ) × IsNumbered first memory (codes "stops") × (text ≡ first ++ 10 ∷ [])
IsAnswer text memory Fails = (first : List ℕ) × IsNumbered first memory (codes "fails") × (text ≡ first ++ 10 ∷ [])

-- from the bytes that were read, a line with its line feed was taken, or all bytes as a part of a line
abbrev pub TakesHeld : (text taken rest : List ℕ) → (is_line : Bool) → Type 0
TakesHeld text taken rest true = text ≡ taken ++ 10 ∷ rest
TakesHeld text taken rest false = (text ≡ taken) × (rest ≡ [])

module _ {R W : Type 0} (gives : R → Chunk → R → Type 0) where
  -- between two states this text was taken of what the host gives: of what was read before and not taken, and then of
  -- what reads brought
  pub record TakesText (old new : Host R W) (text : List ℕ) : Type 0 where
    pub reads : ℕ
    pub came : List ℕ
    pub gathered : Gathers gives old.reader.now reads came new.reader.now
    pub cut : old.held.items ++ came ≡ text ++ new.held.items

  -- a line was taken, and says this command
  pub record TakesCommand (old new : Host R W) (command : Command) : Type 0 where
    pub said : List ℕ
    pub takes : TakesText old new (said ++ 10 ∷ [])
    pub means : IsCommand said command

  module _ (takes : W → List ℕ → WriteAnswer → W → Type 0) (flushes : W → Bool → W → Type 0) where
    -- a question was written and passed on, and then this answer was read
    pub record IsReplied (old : Host R W) (asked : List ℕ) (memory : ℕ) (step : Step) (new : Host R W) : Type 0 where
      pub put : W
      pub written : PutsAll takes old.writer.now asked put
      pub passed : flushes put true new.writer.now
      pub text : List ℕ
      pub read : TakesText old new text
      pub answer : IsAnswer text memory step

    -- a host was asked this, and answered so
    abbrev pub IsExchange : (old : Host R W) → QuestionAnswer → (new : Host R W) → Type 0
    IsExchange old (Begins agent memory step) new = IsReplied old (begin_question agent) memory step new
    IsExchange old (GoesOn before item memory step) new = IsReplied old (next_question before item) memory step new
