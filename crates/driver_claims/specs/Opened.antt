-- What has to be opened for the driver to compute, and which bytes match a key; for proofs.
use Rattle.std.specs.Prelude.{ℕ, ◌+◌, ◌%◌, ◌&&◌, Bool, List, bytes_eq, map}
use Rattle.std.specs.List.{list_any, range_with_len}
use Rattle.annex_base.specs.Decimal.{number_of as decimal_number_of}
use Rattle.annex_base.specs.RepoText.{repo_of}
use Rattle.annex_base.specs.StampReading.{digits_at, fraction_at, stamp_of}
use Rattle.annex_base.specs.StampText.{digits_after_point}
use Rattle.annex_key.specs.Reading.{backend_at, number_at, field_at, must_at, chunk_at, checked_name, name_at, parts_at, key_at, around_chunk}
use Rattle.log_lines.specs.Reading.{first_word, last_word, after_mark, mark_at, stamp_end, repo_front, repo_line, stamp_front, location_of, number_of as log_number_of, copies_of, number_and_rest, path_copies_of, trust_of, text_of, groups_of, group_front, group_text_of, entry_of}
use Rattle.node_model.specs.Knows.{need_by, standing_of}
use Rattle.glob_match.specs.Spelled.{glob_in}
use Rattle.wanted_expr.specs.Parsed.{formula_in}
use Rattle.wanted_expr.specs.Wanted.{required, wants}
use Rattle.run_model.specs.Drops.{standing}
use Rattle.run_model.specs.Said.{message_in}
use Rattle.wanted_rules.specs.Plan.{plan}
use Rattle.uuid.specs.Text.{by_index}
use Rattle.md5.specs.Md5.{block_words, rounds, compress, hash_after, digest_bytes, md5}
use Rattle.hex.specs.Hex.{encode_with}
use lib.Utf8.{encode as utf8_encode}
use Rattle.std.specs.Str.{is_utf8, chars}
use Rattle.std.specs.Str.Lossy.{utf8_valid_len}
use Rattle.std.specs.Fmt.{digits}

unfoldable pub opened : Unit {0}
unfolding by_index digits is_utf8 chars utf8_valid_len utf8_encode block_words rounds compress hash_after digest_bytes md5 encode_with decimal_number_of repo_of digits_at fraction_at stamp_of digits_after_point backend_at number_at field_at must_at chunk_at checked_name name_at parts_at key_at around_chunk first_word last_word after_mark mark_at stamp_end repo_front repo_line stamp_front location_of log_number_of copies_of number_and_rest path_copies_of trust_of text_of groups_of group_front group_text_of entry_of standing_of need_by glob_in formula_in required standing message_in plan wants
opened = tt

-- the bytes of `fill:N:S`
abbrev pub fill : ℕ → ℕ → List ℕ
fill n s = map (λ i. (i + s) % 251) (range_with_len 0 n)

-- these are the bytes that match a key
abbrev pub matches_in : List (List ℕ × List ℕ) → List ℕ → List ℕ → Bool
matches_in pairs key bytes = list_any (λ p. bytes_eq p.0 key && bytes_eq p.1 bytes) pairs
