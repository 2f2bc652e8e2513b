-- What the lines on standard error say of the words of the command line.
--   misuse_text m   why words ask for no command
--   source_text s   where a command reads its bytes
-- Assumes nothing.
use Rattle.std.specs.Prelude.{ℕ, List, ◌++◌, string_bytes, codes}
use Rattle.wafulexi.specs.declared.words.Misuse.{Misuse}
use Rattle.wafulexi.specs.declared.words.Misuse.TheVariants.{NoCommand, UnknownCommand, UnknownOption, OneTooMany, Twice, Unfinished, NotEightDigits, FoldOfEvents, StationsOfBytes}
use Rattle.wafulexi.specs.declared.words.Source.{Source}
use Rattle.wafulexi.specs.declared.words.Source.TheVariants.{Input, File}

abbrev pub misuse_text : Misuse → List ℕ
misuse_text NoCommand = codes "no command is given"
misuse_text (UnknownCommand w) = codes "unknown command: " ++ string_bytes w
misuse_text (UnknownOption w) = codes "unknown option: " ++ string_bytes w
misuse_text (OneTooMany w) = codes "one word too many: " ++ string_bytes w
misuse_text (Twice w) = codes "given twice: " ++ string_bytes w
misuse_text (Unfinished w) = codes "a word has to follow: " ++ string_bytes w
misuse_text (NotEightDigits w) = codes "not eight digits: " ++ string_bytes w
misuse_text FoldOfEvents = codes "--fold is for bytes, not for events"
misuse_text StationsOfBytes = codes "--stations is for events, not for bytes"

abbrev pub source_text : Source → List ℕ
source_text Input = codes "standard input"
source_text (File name) = string_bytes name
