-- Identifiers, numbers, stamps, keys, trees and evidence: what texts say and how they are written (by computation).
use Rattle.std.specs.Prelude.{◌≡◌, refl, ℕ, ◌+◌, ◌-◌, ◌/◌, Bool, true, false, nat_lt, if◌then◌else◌, List, [], ◌∷◌, ◌++◌, length, map, filter_map, fold, replicate, Option, Some, None, is_none, option_map, Result, Ok, Err, IsTrue, codes}
use Rattle.std.specs.List.{repeat}
use Rattle.uuid.specs.Text.{by_index}
use Rattle.std.specs.Fmt.{digits, decimal}
use Rattle.std.specs.Str.{is_utf8, chars}
use Rattle.std.specs.Str.Lossy.{utf8_valid_len}
use lib.Utf8.{encode as utf8_encode}
use Rattle.annex_base.specs.Decimal.{number_of}
use Rattle.annex_base.specs.RepoText.{repo_of, repo_text}
use Rattle.annex_base.specs.StampReading.{digits_at, fraction_at, stamp_of}
use Rattle.annex_base.specs.StampText.{digits_after_point, stamp_text}
use Rattle.annex_key.specs.declared.fault.KeyFault.{KeyFault}
use Rattle.annex_key.specs.declared.fault.KeyFault.TheVariants.{NoDashes, BadBackend, BadField, EmptyName, TooLong, BadEscape, BadName}
use Rattle.annex_key.specs.FileKey.{key_of_file}
use Rattle.annex_key.specs.KeyFile.{file_text, is_bad_escape, BreaksFile, HasBadEscape}
use Rattle.annex_key.specs.KeyText.{is_digest_backend}
use Rattle.annex_key.specs.Reading.{backend_at, number_at, field_at, must_at, chunk_at, checked_name, name_at, parts_at, key_at}
use Rattle.annex_key.specs.Tree.{Entries, with_key, key_of, paths_of, distinct_keys}
use Rattle.annex_key.specs.View.{backend_part, first_fault, name_part, size_part, unchunked_text}
use Rattle.annex_key.proofs.FaultLemmas.{key_err}
use Rattle.drop_proof.specs.declared.evidence.Evidence.{Evidence}
use Rattle.drop_proof.specs.declared.evidence.Kind.{Kind}
use Rattle.drop_proof.specs.declared.evidence.Kind.TheVariants.{Locked, Trusted, Recent}
use Rattle.drop_proof.specs.declared.expiry.Expired.{Expired}
use Rattle.drop_proof.specs.declared.rule.Judged.{Judged}
use Rattle.drop_proof.specs.declared.rule.Judged.TheVariants.{Enough, Lacking}
use Rattle.drop_proof.specs.declared.rule.Need.{Need}
use Rattle.drop_proof.specs.declared.rule.Side.{Side}
use Rattle.drop_proof.specs.declared.rule.Side.TheVariants.{Local, Remote}
use Rattle.drop_proof.specs.Judging.{judgement}
use Rattle.text_claims.proofs.Cases.{Answers}

unfoldable opened : Unit {0}
unfolding by_index digits is_utf8 chars utf8_valid_len utf8_encode number_of repo_of digits_at fraction_at stamp_of digits_after_point backend_at number_at field_at must_at chunk_at checked_name name_at parts_at key_at
opened = tt

-- ---- identifiers: only lower-case hyphenated texts are (RFC 9562)

-- the identifier of a text, written again
abbrev id_again : List ℕ → Option (List ℕ)
id_again text = option_map repo_text (repo_of text)

abbrev id_cases : List (List ℕ × Option (List ℕ))
id_cases =
    (codes "f81d4fae-7dec-11d0-a765-00a0c91e6bf6", Some (codes "f81d4fae-7dec-11d0-a765-00a0c91e6bf6"))
    ∷ (codes "00000000-0000-0000-0000-000000000000", Some (codes "00000000-0000-0000-0000-000000000000"))
    ∷ (codes "ffffffff-ffff-ffff-ffff-ffffffffffff", Some (codes "ffffffff-ffff-ffff-ffff-ffffffffffff"))
    ∷ (codes "F81D4FAE-7DEC-11D0-A765-00A0C91E6BF6", None)
    ∷ (codes "f81d4fae-7dec-11d0-a765-00a0c91e6bF6", None)
    ∷ (codes "{f81d4fae-7dec-11d0-a765-00a0c91e6bf6}", None)
    ∷ (codes "urn:uuid:f81d4fae-7dec-11d0-a765-00a0c91e6bf6", None)
    ∷ (codes "f81d4fae7dec11d0a76500a0c91e6bf6", None)
    ∷ (codes "f81d4fae-7dec-11d0-a765-00a0c91e6bf", None)
    ∷ (codes "f81d4fae-7dec-11d0-a765-00a0c91e6bf66", None)
    ∷ (codes "f81d4fae-7dec-11d0-a765-00a0c91e6bfg", None)
    ∷ (codes "f81d4fae-7dec-11d0-a76500-a0c91e6bf6", None)
    ∷ (codes " f81d4fae-7dec-11d0-a765-00a0c91e6bf", None)
    ∷ ([], None)
    ∷ []

ids : Answers id_again id_cases
unfolding opened
ids = refl

-- ---- numbers: without a leading zero and a sign, and below 2 ^ 64

-- the number of a text, written again
abbrev number_again : List ℕ → Option (List ℕ)
number_again text = option_map decimal (number_of text)

abbrev number_cases : List (List ℕ × Option (List ℕ))
number_cases =
    (codes "18446744073709551615", Some (codes "18446744073709551615"))
    ∷ (codes "18446744073709551616", None)
    ∷ (codes "0", Some (codes "0"))
    ∷ (codes "90", Some (codes "90"))
    ∷ (codes "007", None)
    ∷ (codes "+5", None)
    ∷ ([], None)
    ∷ []

numbers : Answers number_again number_cases
unfolding opened
numbers = refl

-- ---- stamps: git-annex writes seconds and a fraction; further digits are cut off

abbrev stamp_cases : List (List ℕ × Option ℕ)
stamp_cases =
    (codes "1287290776.765152s", Some 1287290776765152000)
    ∷ (codes "1700000000s", Some 1700000000000000000)
    ∷ (codes "0", Some 0)
    ∷ (codes "0s", Some 0)
    ∷ (codes "1", Some 1000000000)
    ∷ (codes "1.5s", Some 1500000000)
    ∷ (codes "1.5", Some 1500000000)
    ∷ (codes "1.050s", Some 1050000000)
    ∷ (codes "1.000000001s", Some 1000000001)
    ∷ (codes "1.0000000019s", Some 1000000001)
    ∷ (codes "1.999999999999", Some 1999999999)
    ∷ (codes "0.000000000001s", Some 0)
    ∷ (codes "0000000001s", Some 1000000000)
    ∷ (codes "9999999999.999999999s", Some 9999999999999999999)
    ∷ []

stamps : Answers stamp_of stamp_cases
unfolding opened
stamps = refl

-- texts that are none
abbrev other_texts : List (List ℕ)
other_texts =
    codes "00000000001s"
    ∷ codes "10000000000s"
    ∷ codes "1.1234567890123s"
    ∷ []
    ∷ codes "s"
    ∷ codes ".5s"
    ∷ codes "1."
    ∷ codes "1.s"
    ∷ codes "1ss"
    ∷ codes "1S"
    ∷ codes "1s "
    ∷ codes " 1s"
    ∷ codes "+1s"
    ∷ codes "-1s"
    ∷ codes "1,5s"
    ∷ codes "1.5.5"
    ∷ codes "1e5"
    ∷ []

no_stamps : filter_map stamp_of other_texts ≡ []
unfolding opened
no_stamps = refl

-- the stamp of a text, written again
abbrev stamp_again : List ℕ → Option (List ℕ)
stamp_again text = option_map stamp_text (stamp_of text)

abbrev written_stamp_cases : List (List ℕ × Option (List ℕ))
written_stamp_cases =
    (codes "0", Some (codes "0s"))
    ∷ (codes "1.000000000000", Some (codes "1s"))
    ∷ (codes "0000000010.50", Some (codes "10.5s"))
    ∷ (codes "1.05", Some (codes "1.05s"))
    ∷ (codes "0.000000001", Some (codes "0.000000001s"))
    ∷ (codes "0.9999999999", Some (codes "0.999999999s"))
    ∷ (codes "1287290776.765152", Some (codes "1287290776.765152s"))
    ∷ (codes "9999999999.999999999", Some (codes "9999999999.999999999s"))
    ∷ []

written_stamps : Answers stamp_again written_stamp_cases
unfolding opened
written_stamps = refl

-- ---- keys: the first fault of a text, none where it is a key's

-- faults before the fields
abbrev early_fault_cases : List (List ℕ × Option KeyFault)
early_fault_cases =
    ([], Some NoDashes)
    ∷ (codes "-", Some NoDashes)
    ∷ (codes "WORM", Some NoDashes)
    ∷ (codes "WORM-s3-a", Some NoDashes)
    ∷ (codes "worm-s03-", Some NoDashes)
    ∷ (codes "--", Some BadBackend)
    ∷ (codes "--a", Some BadBackend)
    ∷ (codes "-s1--a", Some BadBackend)
    ∷ (codes "worm--a", Some BadBackend)
    ∷ (codes "WoRM--a", Some BadBackend)
    ∷ (codes "1WORM--a", Some BadBackend)
    ∷ (codes "_WORM--a", Some BadBackend)
    ∷ (codes "A B--a", Some BadBackend)
    ∷ (codes "worm-s03--", Some BadBackend)
    ∷ (codes "ABCDEFGHIJKLMNOPQRSTUVWXYZ0123456--a", Some BadBackend)
    ∷ (codes "ABCDEFGHIJKLMNOPQRSTUVWXYZ012345--a", None)
    ∷ (codes "A--a", None)
    ∷ (codes "A_--abc", None)
    ∷ (codes "SHA3_256--abc", None)
    ∷ (codes "W-ORM--a", Some (BadField 2))
    ∷ (codes "WORM- --a", Some (BadField 5))
    ∷ (codes "WORM-\n--a", Some (BadField 5))
    ∷ []

early_faults : Answers first_fault early_fault_cases
unfolding opened
early_faults = refl

-- faults in the fields
abbrev field_fault_cases : List (List ℕ × Option KeyFault)
field_fault_cases =
    (codes "WORM-s03--a", Some (BadField 6))
    ∷ (codes "WORM-s00--a", Some (BadField 6))
    ∷ (codes "WORM-s0--a", None)
    ∷ (codes "WORM-s--a", Some (BadField 6))
    ∷ (codes "WORM-s3x--a", Some (BadField 6))
    ∷ (codes "WORM-s1 --a", Some (BadField 6))
    ∷ (codes "WORM-s1\n--a", Some (BadField 6))
    ∷ (codes "WORM-s+1--a", Some (BadField 6))
    ∷ (codes "WORM-s18446744073709551616--a", Some (BadField 6))
    ∷ (codes "WORM-s18446744073709551615--a", None)
    ∷ (codes "WORM-m--a", Some (BadField 6))
    ∷ (codes "WORM-m01--a", Some (BadField 6))
    ∷ (codes "WORM-x1--a", Some (BadField 5))
    ∷ (codes "WORM-C1--a", Some (BadField 5))
    ∷ (codes "WORM-m1-s2--a", Some (BadField 8))
    ∷ (codes "WORM-s1-s2--a", Some (BadField 8))
    ∷ []

field_faults : Answers first_fault field_fault_cases
unfolding opened
field_faults = refl

abbrev later_field_fault_cases : List (List ℕ × Option KeyFault)
later_field_fault_cases =
    (codes "WORM-m1-m1--a", Some (BadField 8))
    ∷ (codes "WORM-s1-x--a", Some (BadField 8))
    ∷ (codes "WORM-S1--a", Some (BadField 8))
    ∷ (codes "WORM-S1-m2--a", Some (BadField 8))
    ∷ (codes "WORM-S1-C02--a", Some (BadField 9))
    ∷ (codes "WORM-S1-Cx--a", Some (BadField 9))
    ∷ (codes "WORM-S01-C2--a", Some (BadField 6))
    ∷ (codes "WORM-S1-C2-s3--a", Some (BadField 11))
    ∷ (codes "WORM-S1-C2-S3-C4--a", Some (BadField 11))
    ∷ (codes "WORM-s3x-m01--a", Some (BadField 6))
    ∷ (codes "WORM-s3-m01--\n", Some (BadField 9))
    ∷ (codes "WORM-s9-S3-C3--a", None)
    ∷ (codes "WORM-s9-m5-S3-C3--a", None)
    ∷ []

later_field_faults : Answers first_fault later_field_fault_cases
unfolding opened
later_field_faults = refl

-- faults in the name
abbrev name_fault_cases : List (List ℕ × Option KeyFault)
name_fault_cases =
    (codes "WORM--", Some EmptyName)
    ∷ (codes "WORM-s1--", Some EmptyName)
    ∷ (codes "WORM-S1-C2--", Some EmptyName)
    ∷ (codes "WORM---", None)
    ∷ (codes "WORM---a", None)
    ∷ (codes "WORM-s1---a", None)
    ∷ (codes "WORM-s3--a-s3--b", None)
    ∷ (codes "WORM-- a b", None)
    ∷ (codes "WORM--\n", Some (BadName 6))
    ∷ (codes "WORM--a\nb", Some (BadName 7))
    ∷ (codes "WORM-s3--a\n", Some (BadName 10))
    ∷ (codes "WORM--" ++ 255 ∷ [], Some (BadName 6))
    ∷ (codes "WORM--ab" ++ 195 ∷ [], Some (BadName 8))
    ∷ (codes "WORM--" ++ 195 ∷ 169 ∷ [], None)
    ∷ (codes "WORM--" ++ 237 ∷ 160 ∷ 128 ∷ [], Some (BadName 6))
    ∷ (codes "WORM--" ++ 192 ∷ 128 ∷ [], Some (BadName 6))
    ∷ (codes "WORM--\n" ++ 255 ∷ [], Some (BadName 6))
    ∷ (codes "WORM--" ++ 255 ∷ codes "\n", Some (BadName 6))
    ∷ (codes "WORM--a" ++ 195 ∷ codes "\n", Some (BadName 7))
    ∷ (codes "WORM--a" ++ 0 ∷ codes "b", None)
    ∷ []

name_faults : Answers first_fault name_fault_cases
unfolding opened
name_faults = refl

-- a key has at most 1,024 bytes
abbrev long_fault_cases : List (List ℕ × Option KeyFault)
long_fault_cases =
    (codes "WORM--" ++ replicate 1018 120, None)
    ∷ (codes "WORM--" ++ replicate 1019 120, Some TooLong)
    ∷ (replicate 1025 120, Some TooLong)
    ∷ []

long_faults : Answers first_fault long_fault_cases
unfolding opened
long_faults = refl

-- ---- the parts of keys, as git-annex 10.20250416 gives them

-- what is said of a key; nothing of a text that is none
abbrev pub of_key : {X : Type 0} → (List ℕ → X) → List ℕ → Option X
of_key f text = if is_none (first_fault text) then Some (f text) else None

-- the backend, the size and the name of the file
abbrev parts : List ℕ → List ℕ × Option ℕ × List ℕ
parts key = (backend_part key, size_part key, file_text key)

abbrev plain_parts_cases : List (List ℕ × Option (List ℕ × Option ℕ × List ℕ))
plain_parts_cases =
    (codes "WORM--abc", Some (codes "WORM", None, codes "WORM--abc"))
    ∷ (codes "SHA224--abc", Some (codes "SHA224", None, codes "SHA224--abc"))
    ∷ (codes "SHA384E--abc", Some (codes "SHA384E", None, codes "SHA384E--abc"))
    ∷ (codes "MD5--abc", Some (codes "MD5", None, codes "MD5--abc"))
    ∷ (codes "SHA3_256--abc", Some (codes "SHA3_256", None, codes "SHA3_256--abc"))
    ∷ (codes "URL--abc", Some (codes "URL", None, codes "URL--abc"))
    ∷ (codes "GITMANIFEST--abc", Some (codes "GITMANIFEST", None, codes "GITMANIFEST--abc"))
    ∷ (codes "FOO--abc", Some (codes "FOO", None, codes "FOO--abc"))
    ∷ (codes "A_--abc", Some (codes "A_", None, codes "A_--abc"))
    ∷ (codes "MD5-s0--d41d8cd98f00b204e9800998ecf8427e", Some (codes "MD5", Some 0, codes "MD5-s0--d41d8cd98f00b204e9800998ecf8427e"))
    ∷ (codes "SHA224-s0--d14a028c2a3a2bc9476102bb288234c415a2b01f828ea62ac5b3e42f", Some (codes "SHA224", Some 0, codes "SHA224-s0--d14a028c2a3a2bc9476102bb288234c415a2b01f828ea62ac5b3e42f"))
    ∷ (codes "SHA256-s0--e3b0c44298fc1c149afbf4c8996fb92427ae41e4649b934ca495991b7852b855", Some (codes "SHA256", Some 0, codes "SHA256-s0--e3b0c44298fc1c149afbf4c8996fb92427ae41e4649b934ca495991b7852b855"))
    ∷ (codes "SHA384-s0--38b060a751ac96384cd9327eb1b1e36a21fdb71114be07434c0cc7bf63f6e1da274edebfe76f65fbd51ad2f14898b95b", Some (codes "SHA384", Some 0, codes "SHA384-s0--38b060a751ac96384cd9327eb1b1e36a21fdb71114be07434c0cc7bf63f6e1da274edebfe76f65fbd51ad2f14898b95b"))
    ∷ (codes "SHA512-s0--cf83e1357eefb8bdf1542850d66d8007d620e4050b5715dc83f4a921d36ce9ce47d0d13c5d85f2b0ff8318d2877eec2f63b931bd47417a81a538327af927da3e", Some (codes "SHA512", Some 0, codes "SHA512-s0--cf83e1357eefb8bdf1542850d66d8007d620e4050b5715dc83f4a921d36ce9ce47d0d13c5d85f2b0ff8318d2877eec2f63b931bd47417a81a538327af927da3e"))
    ∷ []

plain_parts : Answers (of_key parts) plain_parts_cases
unfolding opened
plain_parts = refl

abbrev more_parts_cases : List (List ℕ × Option (List ℕ × Option ℕ × List ℕ))
more_parts_cases =
    (codes "SHA256E-s3--ba7816bf8f01cfea414140de5dae2223b00361a396177a9cb410ff61f20015ad.tar.gz", Some (codes "SHA256E", Some 3, codes "SHA256E-s3--ba7816bf8f01cfea414140de5dae2223b00361a396177a9cb410ff61f20015ad.tar.gz"))
    ∷ (codes "SHA256E-s3--ba7816bf8f01cfea414140de5dae2223b00361a396177a9cb410ff61f20015ad.:", Some (codes "SHA256E", Some 3, codes "SHA256E-s3--ba7816bf8f01cfea414140de5dae2223b00361a396177a9cb410ff61f20015ad.&c"))
    ∷ (codes "WORM-s3--a-s3--b", Some (codes "WORM", Some 3, codes "WORM-s3--a-s3--b"))
    ∷ (codes "WORM-s3--a b", Some (codes "WORM", Some 3, codes "WORM-s3--a b"))
    ∷ (codes "WORM-s3--../a", Some (codes "WORM", Some 3, codes "WORM-s3--..%a"))
    ∷ (codes "WORM-s3--&&", Some (codes "WORM", Some 3, codes "WORM-s3--&a&a"))
    ∷ (codes "WORM-s3--/%:&", Some (codes "WORM", Some 3, codes "WORM-s3--%&s&c&a"))
    ∷ (codes "WORM-s3--a*b", Some (codes "WORM", Some 3, codes "WORM-s3--a*b"))
    ∷ (codes "WORM-s3--a#b", Some (codes "WORM", Some 3, codes "WORM-s3--a#b"))
    ∷ (codes "WORM-s3--a" ++ 11 ∷ codes "b", Some (codes "WORM", Some 3, codes "WORM-s3--a" ++ 11 ∷ codes "b"))
    ∷ (codes "WORM-- a b", Some (codes "WORM", None, codes "WORM-- a b"))
    ∷ (codes "WORM-s10--a", Some (codes "WORM", Some 10, codes "WORM-s10--a"))
    ∷ (codes "WORM---a", Some (codes "WORM", None, codes "WORM---a"))
    ∷ (codes "WORM-s9-S3-C3--a", Some (codes "WORM", Some 9, codes "WORM-s9-S3-C3--a"))
    ∷ (codes "WORM---", Some (codes "WORM", None, codes "WORM---"))
    ∷ []

more_parts : Answers (of_key parts) more_parts_cases
unfolding opened
more_parts = refl

abbrev long_parts_cases : List (List ℕ × Option (List ℕ × Option ℕ × List ℕ))
long_parts_cases =
    (codes "SHA256E-s1-S16-C1--5feceb66ffc86f38d952786c6d696c79c2dbc239dd4e91b46729d73a27fb57e9.bin", Some (codes "SHA256E", Some 1, codes "SHA256E-s1-S16-C1--5feceb66ffc86f38d952786c6d696c79c2dbc239dd4e91b46729d73a27fb57e9.bin"))
    ∷ (codes "SHA256E-s259--7902699be42c8a8e46fbbb4501726517e86b22c56a189f7625a6da49081b2451.jpeg", Some (codes "SHA256E", Some 259, codes "SHA256E-s259--7902699be42c8a8e46fbbb4501726517e86b22c56a189f7625a6da49081b2451.jpeg"))
    ∷ (codes "SHA256E-s518--8527a891e224136950ff32ca212b45bc93f69fbb801c3b1ebedac52775f99e61.mp3", Some (codes "SHA256E", Some 518, codes "SHA256E-s518--8527a891e224136950ff32ca212b45bc93f69fbb801c3b1ebedac52775f99e61.mp3"))
    ∷ (codes "SHA256E-s777--6f4b6612125fb3a0daecd2799dfd6c9c299424fd920f9b308110a2c1fbd8f443.txt", Some (codes "SHA256E", Some 777, codes "SHA256E-s777--6f4b6612125fb3a0daecd2799dfd6c9c299424fd920f9b308110a2c1fbd8f443.txt"))
    ∷ (codes "SHA256E-s1000-S16-C3--670671cd97404156226e507973f2ab8330d3022ca96e0c93bdbdb320c41adcaf.bin", Some (codes "SHA256E", Some 1000, codes "SHA256E-s1000-S16-C3--670671cd97404156226e507973f2ab8330d3022ca96e0c93bdbdb320c41adcaf.bin"))
    ∷ (codes "SHA256E-s1258--86e50149658661312a9e0b35558d84f6c6d3da797f552a9657fe0558ca40cdef.mp3", Some (codes "SHA256E", Some 1258, codes "SHA256E-s1258--86e50149658661312a9e0b35558d84f6c6d3da797f552a9657fe0558ca40cdef.mp3"))
    ∷ (codes "SHA256E-s1517--3d914f9348c9cc0ff8a79716700b9fcd4d2f3e711608004eb8f138bcba7f14d9.txt", Some (codes "SHA256E", Some 1517, codes "SHA256E-s1517--3d914f9348c9cc0ff8a79716700b9fcd4d2f3e711608004eb8f138bcba7f14d9.txt"))
    ∷ (codes "SHA256E-s1776--98010bd9270f9b100b6214a21754fd33bdc8d41b2bc9f9dd16ff54d3c34ffd71", Some (codes "SHA256E", Some 1776, codes "SHA256E-s1776--98010bd9270f9b100b6214a21754fd33bdc8d41b2bc9f9dd16ff54d3c34ffd71"))
    ∷ (codes "SHA256E-s1999-S16-C5--2fca346db656187102ce806ac732e06a62df0dbb2829e511a770556d398e1a6e.bin", Some (codes "SHA256E", Some 1999, codes "SHA256E-s1999-S16-C5--2fca346db656187102ce806ac732e06a62df0dbb2829e511a770556d398e1a6e.bin"))
    ∷ (codes "WORM--a/b:c%d&e", Some (codes "WORM", None, codes "WORM--a%b&cc&sd&ae"))
    ∷ []

long_parts : Answers (of_key parts) long_parts_cases
unfolding opened
long_parts = refl

-- the name, as git-annex reads it
abbrev key_name_cases : List (List ℕ × Option (List ℕ))
key_name_cases =
    (codes "WORM--abc", Some (codes "abc"))
    ∷ (codes "WORM-s3--a-s3--b", Some (codes "a-s3--b"))
    ∷ (codes "WORM---a", Some (codes "-a"))
    ∷ (codes "WORM---", Some (codes "-"))
    ∷ (codes "WORM-s9-S3-C3--a", Some (codes "a"))
    ∷ (codes "WORM-s3--../a", Some (codes "../a"))
    ∷ []

key_names : Answers (of_key name_part) key_name_cases
unfolding opened
key_names = refl

-- whether the names of the backend are digests
abbrev has_digest : List ℕ → Bool
has_digest key = is_digest_backend (backend_part key)

abbrev digest_backend_cases : List (List ℕ × Option Bool)
digest_backend_cases =
    (codes "MD5--a", Some true)
    ∷ (codes "SHA224--a", Some true)
    ∷ (codes "SHA256--a", Some true)
    ∷ (codes "SHA384--a", Some true)
    ∷ (codes "SHA512--a", Some true)
    ∷ (codes "MD5E--a", Some true)
    ∷ (codes "SHA224E--a", Some true)
    ∷ (codes "SHA256E-s3--a", Some true)
    ∷ (codes "SHA384E--a", Some true)
    ∷ (codes "SHA512E--a", Some true)
    ∷ (codes "SHA256EE--a", Some false)
    ∷ (codes "SHA1--a", Some false)
    ∷ (codes "SHA3_256--a", Some false)
    ∷ (codes "SHA25--a", Some false)
    ∷ (codes "SHA256_--a", Some false)
    ∷ (codes "E--a", Some false)
    ∷ (codes "WORM--a", Some false)
    ∷ (codes "URL--SHA256", Some false)
    ∷ []

digest_backends : Answers (of_key has_digest) digest_backend_cases
unfolding opened
digest_backends = refl

-- the key without its chunk, and its size
abbrev unchunked : List ℕ → List ℕ × Option ℕ
unchunked key = (unchunked_text key, size_part (unchunked_text key))

abbrev unchunked_key_cases : List (List ℕ × Option (List ℕ × Option ℕ))
unchunked_key_cases =
    (codes "WORM-s9-S3-C2--a", Some (codes "WORM-s9--a", Some 9))
    ∷ (codes "WORM-s9-m5-S3-C2--a", Some (codes "WORM-s9-m5--a", Some 9))
    ∷ (codes "WORM-S3-C2--a", Some (codes "WORM--a", None))
    ∷ (codes "WORM-m5--a", Some (codes "WORM-m5--a", None))
    ∷ (codes "WORM--a-S3-C2--b", Some (codes "WORM--a-S3-C2--b", None))
    ∷ (codes "SHA256E-s1000-S16-C3--670671cd97404156226e507973f2ab8330d3022ca96e0c93bdbdb320c41adcaf.bin", Some (codes "SHA256E-s1000--670671cd97404156226e507973f2ab8330d3022ca96e0c93bdbdb320c41adcaf.bin", Some 1000))
    ∷ []

unchunked_keys : Answers (of_key unchunked) unchunked_key_cases
unfolding opened
unchunked_keys = refl

-- ---- the names of keys' files

-- the key of a file's name; the first five are names of git-annex whose keys need escapes
abbrev file_key_cases : List (List ℕ × Option (List ℕ))
file_key_cases =
    (codes "SHA256E-s3--ba7816bf8f01cfea414140de5dae2223b00361a396177a9cb410ff61f20015ad.&c", Some (codes "SHA256E-s3--ba7816bf8f01cfea414140de5dae2223b00361a396177a9cb410ff61f20015ad.:"))
    ∷ (codes "WORM-s3--..%a", Some (codes "WORM-s3--../a"))
    ∷ (codes "WORM-s3--&a&a", Some (codes "WORM-s3--&&"))
    ∷ (codes "WORM-s3--%&s&c&a", Some (codes "WORM-s3--/%:&"))
    ∷ (codes "WORM--a%b&cc&sd&ae", Some (codes "WORM--a/b:c%d&e"))
    ∷ (codes "WORM--%", Some (codes "WORM--/"))
    ∷ (codes "WORM--" ++ repeat 1018 (codes "&a"), Some (codes "WORM--" ++ replicate 1018 38))
    ∷ []

file_keys : Answers key_of_file file_key_cases
unfolding opened
file_keys = refl

-- a file's name stands for a text in front, and then for nothing
bad_escape : (text rest : List ℕ) → IsTrue (is_bad_escape rest) → HasBadEscape (file_text text ++ rest) (length (file_text text))
bad_escape text rest bad = record { front = text; rest = rest; spelled = refl; bad = bad; place = refl }

-- the rule that a file's name breaks first: the escapes come before the rules of the text that it stands for
no_letter : BreaksFile (BadEscape 7) (codes "WORM--a&")
no_letter = bad_escape (codes "WORM--a") (codes "&") refl

no_such_letter : BreaksFile (BadEscape 6) (codes "WORM--&x")
no_such_letter = bad_escape (codes "WORM--") (codes "&x") refl

ampersand_for_a_letter : BreaksFile (BadEscape 6) (codes "WORM--&&a")
ampersand_for_a_letter = bad_escape (codes "WORM--") (codes "&&a") refl

upper_case_letter : BreaksFile (BadEscape 6) (codes "WORM--&A")
upper_case_letter = bad_escape (codes "WORM--") (codes "&A") refl

last_ampersand : BreaksFile (BadEscape 6) (codes "WORM--&")
last_ampersand = bad_escape (codes "WORM--") (codes "&") refl

colon : BreaksFile (BadEscape 7) (codes "WORM--a:b")
colon = bad_escape (codes "WORM--a") (codes ":b") refl

slash : BreaksFile (BadEscape 7) (codes "WORM--a/b")
slash = bad_escape (codes "WORM--a") (codes "/b") refl

ampersand_alone : BreaksFile (BadEscape 0) (codes "&")
ampersand_alone = bad_escape [] (codes "&") refl

colon_alone : BreaksFile (BadEscape 0) (codes ":")
colon_alone = bad_escape [] (codes ":") refl

escape_before_field : BreaksFile (BadEscape 10) (codes "WORM-s03--&x")
escape_before_field = bad_escape (codes "WORM-s03--") (codes "&x") refl

first_of_two_escapes : BreaksFile (BadEscape 4) (codes "WORM/--&x")
first_of_two_escapes = bad_escape (codes "WORM") (codes "/--&x") refl

bad_number : BreaksFile (BadField 6) (codes "WORM-s03--&a")
unfolding opened
bad_number = (codes "WORM-s03--&", refl, key_err (codes "WORM-s03--&") (BadField 6) refl)

nothing : BreaksFile NoDashes []
unfolding opened
nothing = ([], refl, key_err [] NoDashes refl)

no_dashes : BreaksFile NoDashes (codes "&a")
unfolding opened
no_dashes = (codes "&", refl, key_err (codes "&") NoDashes refl)

bad_backend : BreaksFile BadBackend (codes "WORM&c--a")
unfolding opened
bad_backend = (codes "WORM:--a", refl, key_err (codes "WORM:--a") BadBackend refl)

bad_letter : BreaksFile (BadField 5) (codes "WORM-%1--a")
unfolding opened
bad_letter = (codes "WORM-/1--a", refl, key_err (codes "WORM-/1--a") (BadField 5) refl)

no_name : BreaksFile EmptyName (codes "WORM--")
unfolding opened
no_name = (codes "WORM--", refl, key_err (codes "WORM--") EmptyName refl)

newline_in_name : BreaksFile (BadName 7) (codes "WORM--&a\n")
unfolding opened
newline_in_name = (codes "WORM--&\n", refl, key_err (codes "WORM--&\n") (BadName 7) refl)

no_utf8_in_name : BreaksFile (BadName 7) (codes "WORM--%" ++ 255 ∷ [])
unfolding opened
no_utf8_in_name = (codes "WORM--/" ++ 255 ∷ [], refl, key_err (codes "WORM--/" ++ 255 ∷ []) (BadName 7) refl)

too_long : BreaksFile TooLong (codes "WORM--" ++ repeat 1019 (codes "&a"))
unfolding opened
too_long = (codes "WORM--" ++ replicate 1019 38, refl, key_err (codes "WORM--" ++ replicate 1019 38) TooLong refl)

late_escape : BreaksFile (BadEscape 2044) (codes "WORM--" ++ repeat 1019 (codes "&a") ++ codes "&")
late_escape = bad_escape (codes "WORM--" ++ replicate 1019 38) (codes "&") refl

-- ---- trees: the last key of a path counts

abbrev tree_of : List (List ℕ × List ℕ) → Entries
tree_of rows = fold (λ tree row. with_key tree row.0 row.1) [] rows

abbrev rows : List (List ℕ × List ℕ)
rows =
    (codes "b", codes "WORM-s2--two")
    ∷ (codes "a/x", codes "WORM-s3--three")
    ∷ (codes "c", codes "WORM-s1--one")
    ∷ (codes "a", codes "WORM-s1--one")
    ∷ (codes "b", codes "WORM-s1--one")
    ∷ (codes "d", codes "WORM-s3--three")
    ∷ []

rows_have_keys : filter_map (λ row. first_fault row.1) rows ≡ []
unfolding opened
rows_have_keys = refl

-- each key, in order of its first path, and its paths
abbrev keys_and_paths : Entries → List (List ℕ × List (List ℕ))
keys_and_paths tree = map (λ key. (key, paths_of tree key)) (distinct_keys tree)

tree : keys_and_paths (tree_of rows) ≡ (codes "WORM-s1--one", codes "a" ∷ codes "b" ∷ codes "c" ∷ []) ∷ (codes "WORM-s3--three", codes "a/x" ∷ codes "d" ∷ []) ∷ []
tree = refl

empty_tree : keys_and_paths (tree_of []) ≡ []
empty_tree = refl

-- the key of a path
abbrev path_cases : List (List ℕ × Option (List ℕ))
path_cases =
    (codes "b", Some (codes "WORM-s1--one"))
    ∷ (codes "a/x", Some (codes "WORM-s3--three"))
    ∷ (codes "a/", None)
    ∷ []

paths : Answers (key_of (tree_of rows)) path_cases
paths = refl

-- ---- evidence: whether it is enough for a drop, or how much there is of how much

abbrev need : ℕ → ℕ → Need
need n m = record { n = n; m = m }

abbrev item : Kind → Evidence
item kind = record { repo = 1; kind = kind }

abbrev recent : Evidence
recent = item Recent

abbrev trusted : Evidence
trusted = item Trusted

-- a hold that ends then
abbrev hold : ℕ → Evidence
hold end = item (Locked end)

abbrev judged : Side × Need × List Evidence → Judged
judged c = judgement c.0 c.1 c.2

-- a local drop counts every item
abbrev local_drop_cases : List ((Side × Need × List Evidence) × Judged)
local_drop_cases =
    ((Local, need 0 0, []), Enough None)
    ∷ ((Local, need 1 0, []), Lacking 0 1 0 0)
    ∷ ((Local, need 2 1, recent ∷ []), Lacking 1 2 0 0)
    ∷ ((Local, need 2 1, recent ∷ trusted ∷ []), Enough None)
    ∷ ((Local, need 1 3, recent ∷ trusted ∷ []), Lacking 2 3 1 0)
    ∷ ((Local, need 1 3, recent ∷ trusted ∷ hold 600000 ∷ []), Enough (Some 600000))
    ∷ ((Local, need 1 1, recent ∷ []), Enough None)
    ∷ []

local_drops : Answers judged local_drop_cases
unfolding opened
local_drops = refl

-- a remote drop asks for items that are locked or trusted, as many as mincopies
abbrev remote_drop_cases : List ((Side × Need × List Evidence) × Judged)
remote_drop_cases =
    ((Remote, need 0 0, []), Enough None)
    ∷ ((Remote, need 1 1, []), Lacking 0 1 0 1)
    ∷ ((Remote, need 2 1, recent ∷ recent ∷ []), Lacking 2 2 0 1)
    ∷ ((Remote, need 2 1, recent ∷ recent ∷ trusted ∷ []), Enough None)
    ∷ ((Remote, need 4 1, recent ∷ recent ∷ trusted ∷ []), Lacking 3 4 1 1)
    ∷ ((Remote, need 1 2, recent ∷ recent ∷ trusted ∷ []), Lacking 3 2 1 2)
    ∷ ((Remote, need 1 2, recent ∷ recent ∷ trusted ∷ hold 599001 ∷ []), Enough (Some 599001))
    ∷ ((Remote, need 2 0, recent ∷ recent ∷ []), Enough None)
    ∷ []

remote_drops : Answers judged remote_drop_cases
unfolding opened
remote_drops = refl

-- the end is that of the first hold to end
abbrev first_end_cases : List ((Side × Need × List Evidence) × Judged)
first_end_cases =
    ((Remote, need 5 3, hold 9 ∷ recent ∷ hold 4 ∷ trusted ∷ hold 7 ∷ []), Enough (Some 4))
    ∷ ((Remote, need 1 2, trusted ∷ hold 7 ∷ []), Enough (Some 7))
    ∷ ((Local, need 2 2, hold 18446744073709551615 ∷ hold 0 ∷ []), Enough (Some 0))
    ∷ []

first_ends : Answers judged first_end_cases
unfolding opened
first_ends = refl

-- what `drop_proof::deadline` answers by its clauses `due` and `expired`: the time up to which a peer may drop, in whole
-- seconds, or the hold that has ended; of its end, the clock and the peer's timestamp
abbrev due : ℕ × ℕ × ℕ → Result ℕ Expired
due c = if nat_lt c.1 c.0 then Ok (c.2 + (c.0 - c.1) / 1000) else Err (record { end = c.0; clock = c.1 })

abbrev ended : ℕ → ℕ → Result ℕ Expired
ended end clock = Err (record { end = end; clock = clock })

abbrev deadline_cases : List ((ℕ × ℕ × ℕ) × Result ℕ Expired)
deadline_cases =
    ((600000, 599001, 7), Ok 7)
    ∷ ((600000, 599000, 7), Ok 8)
    ∷ ((600000, 0, 7), Ok 607)
    ∷ ((1, 0, 0), Ok 0)
    ∷ ((18446744073709551615, 0, 0), Ok 18446744073709551)
    ∷ ((18446744073709551615, 18446744073709551614, 4611686018427387903), Ok 4611686018427387903)
    ∷ ((1000, 0, 4611686018427387902), Ok 4611686018427387903)
    ∷ ((600000, 600000, 7), ended 600000 600000)
    ∷ ((600000, 600001, 7), ended 600000 600001)
    ∷ ((0, 0, 0), ended 0 0)
    ∷ ((0, 18446744073709551615, 4611686018427387903), ended 0 18446744073709551615)
    ∷ []

deadlines : Answers due deadline_cases
unfolding opened
deadlines = refl
