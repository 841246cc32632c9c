-- An order is read as it was said, with its deadline and its key, or not at all: whatever time its target told.
use Rattle.std.proofs.Common.{◌≡◌, ℕ, ◌+◌, ◌-◌, ◌/◌, ◌^◌, ◌<◌, ◌≤◌, Bool, true, false, List, Option, Some, None, refl, ap, subst, arith}
use Rattle.std.specs.Prelude.{if◌then◌else◌, ◌&&◌, nat_lt, bytes_eq, is_none, option_and_then, option_map, codes}
use Rattle.std.specs.Fmt.{decimal}
use Rattle.std.specs.Str.Parse.{digits_value}
use Rattle.std.proofs.lemmas.Bool.Decides.{nat_tests}
use Rattle.std.proofs.lemmas.Fmt.{digits_decimal, digits_value-decimal}
use Rattle.annex_base.specs.Lists.{Member}
use Rattle.annex_key.specs.View.{first_fault}
use Rattle.annex_base.specs.RepoText.{repo_of}
use Rattle.annex_base.proofs.DecimalLemmas.{numerals}
use Rattle.run_data.specs.declared.entry.Entry.{Entry}
use Rattle.run_data.specs.declared.entry.FrameText.{FrameText}
use Rattle.run_data.specs.declared.entry.FrameText.TheVariants.{Opening, Closing, Bytes, Line}
use Rattle.p2p_wire.specs.declared.message.Message.{Message}
use Rattle.p2p_wire.specs.declared.message.Message.TheVariants.{AuthSuccess, Version, CheckPresent, LockContent, UnlockContent, Remove, RemoveBefore, GetTimestamp, Timestamp, Get, Put, PutFrom, AlreadyHave, Data, Valid, Invalid, Success, Failure, Error}
use Rattle.p2p_wire.specs.Messages.{alone, key_in, message_by, message_of, number_in, order_of, rest_in, text_in, text_of, then_in, with_file, with_key, with_number, with_one, word_in}
use Rattle.annex_base.proofs.Words.{digits-before_space, digits-from_space}
use Rattle.node_model.specs.SetUp.{SetUp}
use Rattle.node_model.specs.Sessions.{line_in}
use Rattle.run_model.specs.States.{state_of, works}
use Rattle.node_model.specs.Jobs.{Work}
use Rattle.node_model.specs.Look.{Look, Effect}
use Rattle.node_model.specs.JobStep.{clock_of, turn_of}
use Rattle.node_model.specs.Found.{HasDeadline}
use Rattle.run_model.specs.Run.{OwnPast}
use Rattle.step_facts.proofs.EarlyHolds.{first_end_below}
use Rattle.job_facts.proofs.ReadAs.{SameHead, short_cases, then_cases}
use Rattle.job_facts.proofs.WorkFits.{head_of}

-- ---- a timestamp that is read is below 2 ^ 63

abbrev TimeSmall : Option Message → Type 0
TimeSmall (Some (Timestamp n)) = n < 2 ^ 63
TimeSmall o = Unit {0}

mapped : {X : Type 0} (f : X → Message) (o : Option X) → ((x : X) → TimeSmall (Some (f x))) → TimeSmall (option_map f o)
mapped f None all = tt
mapped f (Some x) all = all x

number_time : (word : List ℕ) → TimeSmall (option_map Timestamp (number_in word))
number_time word = go (digits_value 10 word) (nat_lt (digits_value 10 word) (2 ^ 63)) (bytes_eq (decimal (digits_value 10 word)) word) refl
  where
    go : (n : ℕ) (a b : Bool) → nat_lt n (2 ^ 63) ≡ a → TimeSmall (option_map Timestamp (if a && b then Some n else None))
    go n true true is = grind (arith, nat_tests)
    go n true false is = tt
    go n false b is = tt

alone_small : (word : List ℕ) → TimeSmall (alone word)
alone_small word = go (bytes_eq word (codes "SUCCESS")) (bytes_eq word (codes "FAILURE")) (bytes_eq word (codes "VALID")) (bytes_eq word (codes "INVALID")) (bytes_eq word (codes "ALREADY-HAVE")) (bytes_eq word (codes "GETTIMESTAMP"))
  where
    go : (a b c d e f : Bool) → TimeSmall (if a then Some Success else if b then Some Failure else if c then Some Valid else if d then Some Invalid else if e then Some AlreadyHave else if f then Some GetTimestamp else None)
    go true b c d e f = tt
    go false true c d e f = tt
    go false false true d e f = tt
    go false false false true e f = tt
    go false false false false true f = tt
    go false false false false false true = tt
    go false false false false false false = tt

one_small : (word rest : List ℕ) → TimeSmall (with_one word rest)
one_small word rest = go (bytes_eq word (codes "VERSION")) (bytes_eq word (codes "TIMESTAMP")) (bytes_eq word (codes "PUT-FROM")) (bytes_eq word (codes "DATA")) (bytes_eq word (codes "AUTH-SUCCESS")) (bytes_eq word (codes "ERROR"))
  where
    go : (a b c d e f : Bool) → TimeSmall (if a then option_map Version (number_in rest) else if b then option_map Timestamp (number_in rest) else if c then option_map PutFrom (number_in rest)
        else if d then option_map Data (number_in rest) else if e then option_map AuthSuccess (repo_of rest) else if f then option_map Error (text_in rest) else None)
    go true b c d e f = mapped Version (number_in rest) (λ n. tt)
    go false true c d e f = number_time rest
    go false false true d e f = mapped PutFrom (number_in rest) (λ n. tt)
    go false false false true e f = mapped Data (number_in rest) (λ n. tt)
    go false false false false true f = mapped AuthSuccess (repo_of rest) (λ id. tt)
    go false false false false false true = mapped Error (text_in rest) (λ t. tt)
    go false false false false false false = tt

file_small : (m : List ℕ → List ℕ → Message) → ((file key : List ℕ) → TimeSmall (Some (m file key))) → (text : List ℕ) → TimeSmall (with_file m text)
file_small m all text = then_cases TimeSmall (λ (f : List ℕ). Some f) (λ file rest. option_map (m file) (key_in rest)) text tt (λ file rest. mapped (m file) (key_in rest) (all file))

key_small : (word rest : List ℕ) → TimeSmall (with_key word rest)
key_small word rest = go (bytes_eq word (codes "LOCKCONTENT")) (bytes_eq word (codes "UNLOCKCONTENT")) (bytes_eq word (codes "CHECKPRESENT")) (bytes_eq word (codes "REMOVE")) (bytes_eq word (codes "REMOVE-BEFORE")) (bytes_eq word (codes "GET")) (bytes_eq word (codes "PUT"))
  where
    go : (a b c d e f g : Bool) → TimeSmall (if a then option_map LockContent (key_in rest) else if b then option_map UnlockContent (key_in rest) else if c then option_map CheckPresent (key_in rest)
        else if d then option_map Remove (key_in rest) else if e then with_number RemoveBefore rest else if f then then_in number_in (λ n text. with_file (Get n) text) rest else if g then with_file Put rest else with_one word rest)
    go true b c d e f g = mapped LockContent (key_in rest) (λ k. tt)
    go false true c d e f g = mapped UnlockContent (key_in rest) (λ k. tt)
    go false false true d e f g = mapped CheckPresent (key_in rest) (λ k. tt)
    go false false false true e f g = mapped Remove (key_in rest) (λ k. tt)
    go false false false false true f g = then_cases TimeSmall number_in (λ n text. option_map (RemoveBefore n) (key_in text)) rest tt (λ n text. mapped (RemoveBefore n) (key_in text) (λ k. tt))
    go false false false false false true g = then_cases TimeSmall number_in (λ n text. with_file (Get n) text) rest tt (λ n text. file_small (Get n) (λ file k. tt) text)
    go false false false false false false true = file_small Put (λ file k. tt) rest
    go false false false false false false false = one_small word rest

by_small : (word : List ℕ) (rest : Option (List ℕ)) → TimeSmall (message_by word rest)
by_small word None = alone_small word
by_small word (Some rest) = key_small word rest

time_small : (body : FrameText) (n : ℕ) → line_in body ≡ Some (Timestamp n) → n < 2 ^ 63
time_small Opening n e = absurd (cc)
time_small Closing n e = absurd (cc)
time_small (Bytes k) n e = absurd (cc)
time_small (Line text) n e = subst TimeSmall e (short_cases TimeSmall text tt (by_small (word_in text) (rest_in text)))

-- ---- an order

-- whatever is read of an order with a deadline is that order
abbrev IsBefore : ℕ → List ℕ → Option Message → Type 0
IsBefore n key o = (x : Message) → o ≡ Some x → x ≡ RemoveBefore n key

before_as : (n : ℕ) (key : List ℕ) → n < 2 ^ 64 → IsBefore n key (message_of (text_of (RemoveBefore n key)))
before_as n key small = short_cases (IsBefore n key) (text_of (RemoveBefore n key)) (λ x e. absurd (cc))
    (rw (digits-from_space (decimal n) key (digits_decimal numerals n small), digits-before_space (decimal n) key (digits_decimal numerals n small), digits_value-decimal numerals n small)
    (go (nat_lt n (2 ^ 63) && bytes_eq (decimal n) (decimal n)) (is_none (first_fault key))))
  where
    go : (a b : Bool) → IsBefore n key (option_and_then (λ k. option_map (RemoveBefore k) (if b then Some key else None)) (if a then Some n else None))
    go true true x e = cc
    go true false x e = absurd (cc)
    go false b x e = absurd (cc)

remove_as : (key : List ℕ) (x : Message) → SameHead (Remove key) x → x ≡ Remove key
remove_as key (Remove k) h = ap Remove h
remove_as key x h = absurd h

-- a deadline is a time that was read, and the seconds until the first end
deadline_small : (n first clock d : ℕ) → n < 2 ^ 63 → first ≤ 1100000600000 → d ≡ n + (first - clock) / 1000 → d < 2 ^ 64
deadline_small n first clock d small early is = omega (arith, small, early, is)

-- the order of a job's entry
pub order_read : (s : SetUp) (past : List Entry) (h : OwnPast s past) (k : Look) (w : Work) → Member w (works past s.number) → (m : Effect) (deadline : Option ℕ) → HasDeadline (turn_of s (state_of s past) k w) m.taken deadline
    → (x : Message) → message_of (text_of (order_of deadline w.what.key)) ≡ Some x → x ≡ order_of deadline w.what.key
order_read s past h k w runs m None timed x e = remove_as w.what.key x (head_of (Remove w.what.key) x tt e)
order_read s past h k w runs m (Some d) timed x e =
    let y = timed.3 in
    before_as d w.what.key (deadline_small y.0 y.1 (clock_of (turn_of s (state_of s past) k w)) d (time_small timed.0.body y.0 y.2) (first_end_below s past w y.1 h runs y.3) y.5) x e
