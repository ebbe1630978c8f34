-- What the words of `serve` say: its options with their ranges and defaults, and the hosting that they give.
use Rattle.std.specs.Prelude.{◌&&◌, Bool, false, List, [], ◌∷◌, Option, Some, None, codes, if◌then◌else◌, is_some}
use Rattle.std.specs.Str.Parse.{digits_value}
use Rattle.clap.specs.Words.{Row, Shape, Text}
use Rattle.bhs_cli_words.specs.Arguments.{NumberOption, behind, command, flag, has_default, is_given, may_have}
use Rattle.bhs_cli_words.specs.Arguments.{must_have, number_of, numbered, text_in}
use Rattle.bhs_cli_words.specs.declared.orders.Hosting.{Hosting}

-- on which port the server listens
abbrev pub port_option : NumberOption
port_option = record { name = codes "port"; least = 1; most = 65535; default = codes "4000" }

-- how many clients may be connected
abbrev pub sessions_option : NumberOption
sessions_option = record { name = codes "sessions"; least = 1; most = 1024; default = codes "1024" }

-- after how many turns each match is closed
abbrev pub turns_option : NumberOption
turns_option = record { name = codes "turns"; least = 0; most = 4294967295; default = codes "100000" }

-- how many milliseconds pass before each turn
abbrev pub pause_option : NumberOption
pause_option = record { name = codes "pause"; least = 0; most = 4294967295; default = codes "5" }

-- how many milliseconds sessions may last, once all matches are closed
abbrev pub grace_option : NumberOption
grace_option = record { name = codes "grace"; least = 0; most = 4294967295; default = codes "10000" }

-- how many milliseconds matches wait for their agents
abbrev pub gather_option : NumberOption
gather_option = record { name = codes "gather"; least = 0; most = 4294967295; default = codes "0" }

-- on which address the server listens, where no word says it
abbrev pub default_address : Text
default_address = codes "127.0.0.1"

abbrev pub serve : Shape
serve = command (codes "serve") (must_have (codes "tournament") ∷ numbered port_option ∷ numbered sessions_option
    ∷ numbered turns_option ∷ numbered pause_option ∷ behind (codes "replay") (may_have (codes "prefix"))
    ∷ numbered grace_option ∷ numbered gather_option ∷ behind (codes "early") (flag (codes "early"))
    ∷ behind (codes "address") (has_default (codes "address") default_address)
    ∷ behind (codes "log") (flag (codes "log")) ∷ [])

-- the words of the options of `serve`, and which of its flags are given
pub record ServeWords : Type 0 where
  pub port : Text
  pub sessions : Text
  pub turns : Text
  pub pause : Text
  pub grace : Text
  pub gather : Text
  pub early : Bool
  pub log : Bool
  pub address : Text
  pub prefix : Text

-- Each numeric word is a number in its range.
abbrev pub are_numbers : ServeWords → Bool
are_numbers words =
    is_some (number_of port_option words.port) && (is_some (number_of sessions_option words.sessions)
    && (is_some (number_of turns_option words.turns) && (is_some (number_of pause_option words.pause)
    && (is_some (number_of grace_option words.grace) && is_some (number_of gather_option words.gather)))))

-- the hosting with these numbers
abbrev pub hosting_of : ServeWords → Hosting
hosting_of words = record {
  port = digits_value 10 words.port;
  sessions = digits_value 10 words.sessions;
  turns = digits_value 10 words.turns;
  pause = digits_value 10 words.pause;
  grace = digits_value 10 words.grace;
  gather = digits_value 10 words.gather;
  early = words.early;
  log = words.log;
  address = words.address;
  prefix = words.prefix;
}

-- the hosting that these words say
abbrev pub hosting_in : ServeWords → Option Hosting
hosting_in words = if are_numbers words then Some (hosting_of words) else None

-- the words of `serve` where no other option is given
abbrev pub plain_words : (port sessions turns pause prefix : Text) → ServeWords
plain_words port sessions turns pause prefix = record {
  port = port;
  sessions = sessions;
  turns = turns;
  pause = pause;
  grace = grace_option.default;
  gather = gather_option.default;
  early = false;
  log = false;
  address = default_address;
  prefix = prefix;
}

-- the words of `serve`, each by its id
abbrev pub serve_words : List Row → ServeWords
serve_words rows = record {
  port = text_in port_option.name rows;
  sessions = text_in sessions_option.name rows;
  turns = text_in turns_option.name rows;
  pause = text_in pause_option.name rows;
  grace = text_in grace_option.name rows;
  gather = text_in gather_option.name rows;
  early = is_given (codes "early") rows;
  log = is_given (codes "log") rows;
  address = text_in (codes "address") rows;
  prefix = text_in (codes "prefix") rows;
}

-- the hosting that the words of `serve` say
abbrev pub hosting_by : List Row → Option Hosting
hosting_by rows = hosting_in (serve_words rows)
