-- The lines of the P2P protocol's messages, lines that are none, and a client's dialogues, worked out by hand (by
-- computation).
use Rattle.std.specs.Prelude.{◌≡◌, refl, ℕ, List, [], ◌∷◌, ◌++◌, map, filter_map, Option, Some, option_map, option_and_then, codes}
use Rattle.uuid.specs.Text.{by_index}
use Rattle.std.specs.Fmt.{digits}
use Rattle.std.specs.Str.{is_utf8, chars}
use Rattle.std.specs.Str.Lossy.{utf8_valid_len}
use lib.Utf8.{encode as utf8_encode}
use Rattle.annex_base.specs.Decimal.{number_of}
use Rattle.annex_base.specs.RepoText.{repo_of}
use Rattle.annex_key.specs.Reading.{backend_at, number_at, field_at, must_at, chunk_at, checked_name, name_at, parts_at, key_at}
use Rattle.p2p_wire.specs.declared.message.Message.TheVariants.{AuthSuccess, Error, Get}
use Rattle.p2p_wire.specs.Messages.{message_of, text_of}
use Rattle.p2p_client.specs.declared.dialog.Answer.{Answer}
use Rattle.p2p_client.specs.declared.dialog.Answer.TheVariants as answers
use Rattle.p2p_client.specs.declared.dialog.Awaited.{Awaited}
use Rattle.p2p_client.specs.declared.dialog.Awaited.TheVariants as awaits
use Rattle.p2p_client.specs.declared.dialog.Request.{Request}
use Rattle.p2p_client.specs.declared.dialog.Request.TheVariants as requests
use Rattle.p2p_client.specs.declared.dialog.Took.{Took}
use Rattle.p2p_client.specs.declared.dialog.Took.TheVariants as took
use Rattle.p2p_client.specs.Dialogue.{awaited_after, awaited_then, message_for, permitted_answer, took_by}
use Rattle.text_claims.proofs.Cases.{Answers}

unfoldable opened : Unit {0}
unfolding by_index digits is_utf8 chars utf8_valid_len utf8_encode number_of repo_of backend_at number_at field_at must_at chunk_at checked_name name_at parts_at key_at
opened = tt

-- ---- each message is written as it is read

-- the message of a line, written again
abbrev written : List ℕ → Option (List ℕ)
written line = option_map text_of (message_of line)

abbrev messages : List (List ℕ)
messages =
    codes "AUTH-SUCCESS 2c8f0000-0000-4000-8000-00000000abcd"
    ∷ codes "VERSION 3"
    ∷ codes "CHECKPRESENT WORM-s3--a"
    ∷ codes "CHECKPRESENT WORM-s3--a b  c "
    ∷ codes "LOCKCONTENT SHA256E-s1--aa.b"
    ∷ codes "UNLOCKCONTENT WORM-s3--a"
    ∷ codes "REMOVE WORM-s3--a"
    ∷ codes "REMOVE-BEFORE 1700000000 WORM-s3--a b"
    ∷ codes "GETTIMESTAMP"
    ∷ codes "TIMESTAMP 0"
    ∷ codes "GET 0  WORM-s3--a"
    ∷ codes "GET 9223372036854775807 foo WORM-s3--a b"
    ∷ codes "PUT  WORM-s3--a"
    ∷ (codes "PUT " ++ 255 ∷ codes " WORM-s3--a b")
    ∷ codes "PUT-FROM 10"
    ∷ codes "ALREADY-HAVE"
    ∷ codes "DATA 9223372036854775807"
    ∷ codes "VALID"
    ∷ codes "INVALID"
    ∷ codes "SUCCESS"
    ∷ codes "FAILURE"
    ∷ codes "ERROR not  so "
    ∷ []

written_as_read : map written messages ≡ map Some messages
unfolding opened
written_as_read = refl

-- ---- lines that are none

abbrev other_lines : List (List ℕ)
other_lines =
    []
    ∷ codes " "
    ∷ codes "VALID "
    ∷ codes "valid"
    ∷ (codes "VALID" ++ 13 ∷ [])
    ∷ codes "NOTIFYCHANGE"
    ∷ codes "VERSION"
    ∷ codes "VERSION "
    ∷ codes "VERSION 03"
    ∷ codes "VERSION +3"
    ∷ codes "VERSION  3"
    ∷ codes "DATA 9223372036854775808"
    ∷ codes "DATA 18446744073709551616"
    ∷ codes "PUT-FROM -1"
    ∷ codes "TIMESTAMP 1.5"
    ∷ codes "AUTH-SUCCESS 2C8F0000-0000-4000-8000-00000000ABCD"
    ∷ codes "AUTH-SUCCESS"
    ∷ codes "CHECKPRESENT  WORM-s3--a"
    ∷ codes "CHECKPRESENT WORM-s03--a"
    ∷ codes "REMOVE-BEFORE WORM-s3--a"
    ∷ codes "GET 0 WORM-s3--a"
    ∷ codes "PUT WORM-s3--a"
    ∷ codes "UNLOCKCONTENT"
    ∷ (codes "ERROR " ++ 255 ∷ [])
    ∷ []

no_messages : filter_map message_of other_lines ≡ []
unfolding opened
no_messages = refl

-- ---- what lines say

get : message_of (codes "GET 0 a" ++ 255 ∷ codes " WORM-s3--b c") ≡ Some (Get 0 (codes "a" ++ 255 ∷ []) (codes "WORM-s3--b c"))
unfolding opened
get = refl

auth : message_of (codes "AUTH-SUCCESS 2c8f0000-0000-4000-8000-00000000abcd") ≡ Some (AuthSuccess (0x2c ∷ 0x8f ∷ 0x00 ∷ 0x00 ∷ 0x00 ∷ 0x00 ∷ 0x40 ∷ 0x00 ∷ 0x80 ∷ 0x00 ∷ 0x00 ∷ 0x00 ∷ 0x00 ∷ 0x00 ∷ 0xab ∷ 0xcd ∷ []))
unfolding opened
auth = refl

error : message_of (codes "ERROR not so") ≡ Some (Error (codes "not so"))
unfolding opened
error = refl

-- ---- what a client sends and takes; each request is about this key, if about one

abbrev key : List ℕ
key = codes "WORM-s3--a b"

-- the line of a request
abbrev sent : Request → List ℕ
sent request = text_of (message_for request)

abbrev request_cases : List (Request × List ℕ)
request_cases =
    (requests.Version 3, codes "VERSION 3")
    ∷ (requests.CheckPresent key, codes "CHECKPRESENT WORM-s3--a b")
    ∷ (requests.Lock key, codes "LOCKCONTENT WORM-s3--a b")
    ∷ (requests.Unlock key, codes "UNLOCKCONTENT WORM-s3--a b")
    ∷ (requests.GetTimestamp, codes "GETTIMESTAMP")
    ∷ (requests.Remove key, codes "REMOVE WORM-s3--a b")
    ∷ (requests.RemoveBefore 1700000000 key, codes "REMOVE-BEFORE 1700000000 WORM-s3--a b")
    ∷ (requests.Get 7 key, codes "GET 7  WORM-s3--a b")
    ∷ (requests.Put key, codes "PUT  WORM-s3--a b")
    ∷ []

requests_are_sent_so : Answers sent request_cases
unfolding opened
requests_are_sent_so = refl

-- the answer that a line is where this is awaited, and what is awaited then; a line that is no message is none
abbrev permitted : Awaited → List ℕ → Option (Answer × Awaited)
permitted awaited line = option_and_then (permitted_answer awaited) (message_of line)

-- how the line is taken
abbrev taken : Awaited → List ℕ → Took
taken awaited line = took_by (permitted awaited line)

-- how the line is taken after the request
abbrev first_taken : Request × List ℕ → Took
first_taken c = taken (awaited_after c.0) c.1

abbrev answer_cases : List ((Request × List ℕ) × Took)
answer_cases =
    ((requests.Version 3, codes "VERSION 3"), took.Answer (answers.Version 3))
    ∷ ((requests.Version 3, codes "VERSION 0"), took.Answer (answers.Version 0))
    ∷ ((requests.Version 2, codes "VERSION 3"), took.Wrong)
    ∷ ((requests.CheckPresent key, codes "SUCCESS"), took.Answer answers.Success)
    ∷ ((requests.CheckPresent key, codes "FAILURE"), took.Answer answers.Failure)
    ∷ ((requests.CheckPresent key, codes "VALID"), took.Wrong)
    ∷ ((requests.Lock key, codes "SUCCESS"), took.Answer answers.Success)
    ∷ ((requests.Lock key, codes "FAILURE"), took.Answer answers.Failure)
    ∷ ((requests.Lock key, codes "DATA 0"), took.Wrong)
    ∷ ((requests.Lock key, codes "ERROR busy"), took.Wrong)
    ∷ ((requests.Unlock key, codes "SUCCESS"), took.Wrong)
    ∷ ((requests.GetTimestamp, codes "TIMESTAMP 7"), took.Answer (answers.Timestamp 7))
    ∷ ((requests.GetTimestamp, codes "SUCCESS"), took.Wrong)
    ∷ ((requests.Remove key, codes "SUCCESS"), took.Answer answers.Success)
    ∷ ((requests.Remove key, codes "ALREADY-HAVE"), took.Wrong)
    ∷ ((requests.RemoveBefore 1700000000 key, codes "FAILURE"), took.Answer answers.Failure)
    ∷ ((requests.Get 7 key, codes "DATA 3"), took.Answer (answers.Sending 3))
    ∷ ((requests.Get 7 key, codes "SUCCESS"), took.Wrong)
    ∷ ((requests.Get 7 key, codes "FAILURE"), took.Wrong)
    ∷ ((requests.Get 7 key, codes "VALID"), took.Wrong)
    ∷ ((requests.Put key, codes "PUT-FROM 2"), took.Answer (answers.PutFrom 2))
    ∷ ((requests.Put key, codes "ALREADY-HAVE"), took.Answer answers.AlreadyHave)
    ∷ ((requests.Put key, codes "FAILURE"), took.Answer answers.Failure)
    ∷ ((requests.Put key, codes "ERROR busy"), took.Answer answers.Busy)
    ∷ ((requests.Put key, codes "SUCCESS"), took.Wrong)
    ∷ ((requests.Put key, codes "VALID"), took.Wrong)
    ∷ ((requests.Put key, codes "ERROR unexpected"), took.Wrong)
    ∷ []

answers_are_taken_so : Answers first_taken answer_cases
unfolding opened
answers_are_taken_so = refl

-- how the second line is taken
abbrev second_taken : Request × List ℕ × List ℕ → Took
second_taken c = taken (awaited_then (awaited_after c.0) (permitted (awaited_after c.0) c.1)) c.2

abbrev second_cases : List ((Request × List ℕ × List ℕ) × Took)
second_cases =
    ((requests.Get 7 key, codes "DATA 3", codes "VALID"), took.Answer answers.Valid)
    ∷ ((requests.Get 7 key, codes "DATA 3", codes "INVALID"), took.Answer answers.Invalid)
    ∷ ((requests.Get 7 key, codes "VALID", codes "DATA 3"), took.Answer (answers.Sending 3))
    ∷ ((requests.Get 7 key, codes "DATA 3", codes "DATA 3"), took.Wrong)
    ∷ ((requests.Put key, codes "PUT-FROM 0", codes "SUCCESS"), took.Answer answers.Success)
    ∷ ((requests.Put key, codes "PUT-FROM 0", codes "FAILURE"), took.Answer answers.Failure)
    ∷ ((requests.Put key, codes "ALREADY-HAVE", codes "SUCCESS"), took.Wrong)
    ∷ ((requests.CheckPresent key, codes "SUCCESS", codes "SUCCESS"), took.Wrong)
    ∷ []

seconds_are_taken_so : Answers second_taken second_cases
unfolding opened
seconds_are_taken_so = refl

-- once it is closed, a dialogue is as a new one (`p2p_client::Dialog::closed`)
abbrev closed_cases : List (List ℕ × Took)
closed_cases =
    (codes "SUCCESS", took.Wrong)
    ∷ (codes "AUTH-SUCCESS 2c8f0000-0000-4000-8000-00000000abcd", took.Answer (answers.Auth (0x2c ∷ 0x8f ∷ 0x00 ∷ 0x00 ∷ 0x00 ∷ 0x00 ∷ 0x40 ∷ 0x00 ∷ 0x80 ∷ 0x00 ∷ 0x00 ∷ 0x00 ∷ 0x00 ∷ 0x00 ∷ 0xab ∷ 0xcd ∷ [])))
    ∷ []

closed_are_taken_so : Answers (taken awaits.Auth) closed_cases
unfolding opened
closed_are_taken_so = refl
