-- The printed word spells the text, and stands next.
use Rattle.std.proofs.Common.{[], ◌++◌, length, refl, arith}
use Rattle.script_words.specs.Places.{LineWord}
use Rattle.script_words.specs.Words.{printed_word}
use Rattle.script_words.proofs.SpellingLemmas.{next_found, printed_spells}
use Rattle.script_words.proofs.laws.printed_words_are_read_back.Goals as goal

pub returns : goal.returns
returns c spelled text rest says some utf8 ends =
    let printed = printed_word text in
    let word : LineWord = record { place = 0; text = text; after = length printed } in
    next_found (printed ++ rest) 0 word
    (record {
      spaces = [];
      spelled = printed;
      rest = rest;
      goes_on = refl;
      spaces_are = refl;
      spelling = printed_spells spelled text says some;
      utf8 = utf8;
      ends = ends;
      begins_at = refl;
      ends_at = omega arith;
    })
