-- By the laws of words, numbers, keys and contents.
use Rattle.storm_reading.proofs.Script.{storm_is_script}
use Rattle.storm_reading.proofs.storms_say_their_commands.Goals as goal

pub returns : goal.returns
returns c =
    storm_is_script (record { word = c.words_are_as_written.ensures.word; none = c.words_are_as_written.ensures.none })
    (record {
      numbers = c.numbers_are_decimal.ensures;
      sound = c.key_texts_have_no_fault.ensures.sound;
      backend = c.texts_say_their_parts.ensures.backend;
      size = c.texts_say_their_parts.ensures.size;
      verdict = c.verdicts_are_matches.ensures;
    })
