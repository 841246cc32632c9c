-- What has to be opened so that the definitions of logs, branches, globs and expressions compute, and identifiers.
use Rattle.std.specs.Prelude.{ℕ, ◌*◌, ◌+◌, List, [], ◌∷◌}
use Rattle.std.specs.Fmt.{digits}
use Rattle.std.specs.Str.{is_utf8, chars}
use Rattle.std.specs.Str.Lossy.{utf8_valid_len}
use lib.Utf8.{encode as utf8_encode}
use Rattle.uuid.specs.Text.{by_index}
use Rattle.md5.specs.Md5.{block_words, rounds, compress, hash_after, digest_bytes, md5}
use Rattle.hex.specs.Hex.{encode_with}
use Rattle.annex_base.specs.Decimal.{number_of as decimal_number_of}
use Rattle.annex_base.specs.RepoText.{repo_of}
use Rattle.annex_base.specs.StampReading.{digits_at, fraction_at, stamp_of}
use Rattle.annex_base.specs.StampText.{digits_after_point}
use Rattle.annex_key.specs.Reading.{backend_at, number_at, field_at, must_at, chunk_at, checked_name, name_at, parts_at, key_at}
use Rattle.log_lines.specs.Reading.{first_word, last_word, after_mark, mark_at, stamp_end, repo_front, repo_line, stamp_front, location_of, number_of as log_number_of, copies_of, number_and_rest, path_copies_of, trust_of, text_of, groups_of, group_front, group_text_of, entry_of}
use Rattle.branch_bundle.specs.Bundle.{digits_in}
use Rattle.glob_match.specs.Spelled.{glob_in}
use Rattle.wanted_expr.specs.Parsed.{formula_in}

unfoldable pub opened : Unit {0}
unfolding by_index digits is_utf8 chars utf8_valid_len utf8_encode block_words rounds compress hash_after digest_bytes md5 encode_with decimal_number_of repo_of digits_at fraction_at stamp_of digits_after_point backend_at number_at field_at must_at chunk_at checked_name name_at parts_at key_at first_word last_word after_mark mark_at stamp_end repo_front repo_line stamp_front location_of log_number_of copies_of number_and_rest path_copies_of trust_of text_of groups_of group_front group_text_of entry_of digits_in glob_in formula_in
opened = tt

-- the identifier whose digits are all this one, but for the two that tell its version and variant: of 2 it is
-- 22222222-2222-4222-8222-222222222222
abbrev pub repo : ℕ → List ℕ
repo d = let b = 17 * d in b ∷ b ∷ b ∷ b ∷ b ∷ b ∷ (64 + d) ∷ b ∷ (128 + d) ∷ b ∷ b ∷ b ∷ b ∷ b ∷ b ∷ b ∷ []
