-- The line of a message is read as that message, or as none: whatever keys and numbers stand in it.
use Rattle.std.proofs.Common.{◌≡◌, ℕ, Bool, true, false, List, ◌∷◌, ◌++◌, Option, Some, None, refl}
use Rattle.std.specs.Prelude.{if◌then◌else◌, nat_lt, nat_le, ◌&&◌, ◌^◌, bytes_eq, is_none, length, option_map, option_and_then}
use Rattle.std.specs.Fmt.{decimal}
use Rattle.std.specs.Str.Parse.{digits_value}
use Rattle.annex_base.proofs.Conditions.{if_either}
use Rattle.annex_key.specs.View.{first_fault}
use Rattle.p2p_wire.specs.declared.message.Message.{Message}
use Rattle.p2p_wire.specs.declared.message.Message.TheVariants.{Version, CheckPresent, LockContent, UnlockContent, Remove, RemoveBefore, GetTimestamp, Get, Put, Data, Valid, Success, Failure}
use Rattle.p2p_wire.specs.Messages.{◌⊳◌, key_in, message_by, message_of, number_in, rest_in, text_of, then_in, with_file, word_in}

-- a message that is read of the line of another
abbrev pub SameHead : Message → Message → Type 0
SameHead (Version n) (Version k) = Unit {0}
SameHead (CheckPresent key) (CheckPresent k) = k ≡ key
SameHead (LockContent key) (LockContent k) = k ≡ key
SameHead (UnlockContent key) (UnlockContent k) = k ≡ key
SameHead (Remove key) (Remove k) = k ≡ key
SameHead (RemoveBefore n key) (RemoveBefore k q) = Unit {0}
SameHead GetTimestamp GetTimestamp = Unit {0}
SameHead (Get n file key) (Get k f q) = Unit {0}
SameHead (Put file key) (Put f q) = Unit {0}
SameHead (Data n) (Data k) = Unit {0}
SameHead Valid Valid = Unit {0}
SameHead Success Success = Unit {0}
SameHead Failure Failure = Unit {0}
SameHead m x = ⊥

abbrev pub ReadsAs : Message → Option Message → Type 0
ReadsAs m None = Unit {0}
ReadsAs m (Some x) = SameHead m x

-- the messages that jobs send
abbrev pub IsJobs : Message → Type 0
IsJobs (Version n) = Unit {0}
IsJobs (CheckPresent key) = Unit {0}
IsJobs (LockContent key) = Unit {0}
IsJobs (UnlockContent key) = Unit {0}
IsJobs (Remove key) = Unit {0}
IsJobs (RemoveBefore n key) = Unit {0}
IsJobs GetTimestamp = Unit {0}
IsJobs (Get n file key) = Unit {0}
IsJobs (Put file key) = Unit {0}
IsJobs (Data n) = Unit {0}
IsJobs Valid = Unit {0}
IsJobs Success = Unit {0}
IsJobs Failure = Unit {0}
IsJobs m = ⊥

key_cases : (P : Option Message → Type 0) (m : List ℕ → Message) (key : List ℕ) → P None → P (Some (m key)) → P (option_map m (key_in key))
key_cases P m key none some = go (is_none (first_fault key))
  where
    go : (b : Bool) → P (option_map m (if b then Some key else None))
    go true = some
    go false = none

number_cases : (P : Option Message → Type 0) (m : ℕ → Message) (word : List ℕ) → P None → ((n : ℕ) → P (Some (m n))) → P (option_map m (number_in word))
number_cases P m word none some = go (digits_value 10 word) (nat_lt (digits_value 10 word) (2 ^ 63) && bytes_eq (decimal (digits_value 10 word)) word)
  where
    go : (n : ℕ) (b : Bool) → P (option_map m (if b then Some n else None))
    go n true = some n
    go n false = none

pub then_cases : {X : Type 0} (P : Option Message → Type 0) (first : List ℕ → Option X) (second : X → List ℕ → Option Message) (text : List ℕ)
    → P None → ((x : X) (rest : List ℕ) → P (second x rest)) → P (then_in first second text)
then_cases {X = X} P first second text none some = go (first (word_in text)) (rest_in text)
  where
    go : (x : Option X) (rest : Option (List ℕ)) → P (option_and_then (λ rest. option_and_then (λ x. second x rest) x) rest)
    go x None = none
    go None (Some rest) = none
    go (Some x) (Some rest) = some x rest

pub short_cases : (P : Option Message → Type 0) (text : List ℕ) → P None → P (message_by (word_in text) (rest_in text)) → P (message_of text)
short_cases P text none some = if_either P (nat_le (length text) 8192) (message_by (word_in text) (rest_in text)) None (λ e. some) (λ e. none)

pub reads_as : (m : Message) → IsJobs m → ReadsAs m (message_of (text_of m))
reads_as (Version n) is = short_cases (ReadsAs (Version n)) (text_of (Version n)) tt (number_cases (ReadsAs (Version n)) Version (decimal n) tt (λ k. tt))
reads_as (CheckPresent key) is = short_cases (ReadsAs (CheckPresent key)) (text_of (CheckPresent key)) tt (key_cases (ReadsAs (CheckPresent key)) CheckPresent key tt refl)
reads_as (LockContent key) is = short_cases (ReadsAs (LockContent key)) (text_of (LockContent key)) tt (key_cases (ReadsAs (LockContent key)) LockContent key tt refl)
reads_as (UnlockContent key) is = short_cases (ReadsAs (UnlockContent key)) (text_of (UnlockContent key)) tt (key_cases (ReadsAs (UnlockContent key)) UnlockContent key tt refl)
reads_as (Remove key) is = short_cases (ReadsAs (Remove key)) (text_of (Remove key)) tt (key_cases (ReadsAs (Remove key)) Remove key tt refl)
reads_as (RemoveBefore n key) is =
    let m = RemoveBefore n key in
    short_cases (ReadsAs m) (text_of m) tt
    (then_cases (ReadsAs m) number_in (λ k rest. option_map (RemoveBefore k) (key_in rest)) (decimal n ++ 32 ∷ key) tt (λ k rest. key_cases (ReadsAs m) (RemoveBefore k) rest tt tt))
reads_as GetTimestamp is = tt
reads_as (Get n file key) is =
    let m = Get n file key in
    short_cases (ReadsAs m) (text_of m) tt
    (then_cases (ReadsAs m) number_in (λ k text. with_file (Get k) text) (decimal n ⊳ file ⊳ key) tt
    (λ k rest. then_cases (ReadsAs m) (λ (f : List ℕ). Some f) (λ f q. option_map (Get k f) (key_in q)) rest tt (λ f q. key_cases (ReadsAs m) (Get k f) q tt tt)))
reads_as (Put file key) is =
    let m = Put file key in
    short_cases (ReadsAs m) (text_of m) tt
    (then_cases (ReadsAs m) (λ (f : List ℕ). Some f) (λ f q. option_map (Put f) (key_in q)) (file ++ 32 ∷ key) tt (λ f q. key_cases (ReadsAs m) (Put f) q tt tt))
reads_as (Data n) is = short_cases (ReadsAs (Data n)) (text_of (Data n)) tt (number_cases (ReadsAs (Data n)) Data (decimal n) tt (λ k. tt))
reads_as Valid is = tt
reads_as Success is = tt
reads_as Failure is = tt
reads_as m is = absurd is
