-- What a server's line is read as: what it says, where it is read at all.
use Rattle.std.proofs.Common.{◌≡◌, ℕ, Bool, true, false, List, length, Option, Some, None, refl, sym, ap, ◌∙◌, subst}
use Rattle.std.specs.Prelude.{if◌then◌else◌, nat_le, option_map, bytes_eq, codes}
use Rattle.std.specs.Fmt.{decimal}
use Rattle.annex_base.specs.RepoText.{repo_text}
use Rattle.annex_base.specs.RepoText.{repo_of}
use Rattle.run_data.specs.declared.entry.FrameText.{FrameText}
use Rattle.run_data.specs.declared.entry.FrameText.TheVariants.{Opening, Closing, Bytes, Line}
use Rattle.p2p_wire.specs.declared.message.Message.{Message}
use Rattle.p2p_wire.specs.declared.message.Message.TheVariants.{AuthSuccess, Version, CheckPresent, LockContent, UnlockContent, Remove, RemoveBefore, GetTimestamp, Timestamp, Get, Put, PutFrom, AlreadyHave, Data, Valid, Invalid, Success, Failure, Error}
use Rattle.p2p_wire.specs.Messages.{message_of, number_in, text_in, text_of}
use Rattle.run_model.specs.Said.{CloseIt, OpenIt, Piece, Says, message_in, said_line}
use Rattle.step_facts.proofs.Ways.{completes, is_answer}
use Rattle.node_model.specs.Sessions.{line_in}

-- what a server tells a client
abbrev pub tells : Message → Bool
tells (Data n) = true
tells m = completes m

-- the same kind of message
abbrev pub Alike : Message → Message → Type 0
Alike (AuthSuccess id) (AuthSuccess k) = Unit {0}
Alike (Version n) (Version k) = Unit {0}
Alike (Timestamp n) (Timestamp k) = Unit {0}
Alike (PutFrom n) (PutFrom k) = Unit {0}
Alike AlreadyHave AlreadyHave = Unit {0}
Alike (Data n) (Data k) = Unit {0}
Alike Valid Valid = Unit {0}
Alike Invalid Invalid = Unit {0}
Alike Success Success = Unit {0}
Alike Failure Failure = Unit {0}
Alike (Error s) (Error t) = s ≡ t
Alike m k = ⊥

abbrev ReadAs : Message → Option Message → Type 0
ReadAs m None = Unit {0}
ReadAs m (Some k) = Alike m k

short_as : (m : Message) (b : Bool) (o : Option Message) → ReadAs m o → ReadAs m (if b then o else None)
short_as m true o h = h
short_as m false o h = tt

number_as : (f : ℕ → Message) (m : Message) → ((k : ℕ) → Alike m (f k)) → (o : Option ℕ) → ReadAs m (option_map f o)
number_as f m all None = tt
number_as f m all (Some k) = all k

text_as : (t : List ℕ) (b : Bool) → ReadAs (Error t) (option_map Error (if b then Some t else None))
text_as t true = refl
text_as t false = tt

id_as : (m : Message) (o : Option _) → ((k : _) → Alike m (AuthSuccess k)) → ReadAs m (option_map AuthSuccess o)
id_as m None all = tt
id_as m (Some k) all = all k

pub line_as : (m : Message) → tells m ≡ true → ReadAs m (message_of (text_of m))
line_as (AuthSuccess id) t = short_as (AuthSuccess id) (nat_le (length (text_of (AuthSuccess id))) 8192) (option_map AuthSuccess (repo_of (repo_text id))) (id_as (AuthSuccess id) (repo_of (repo_text id)) (λ k. tt))
line_as (Version n) t = short_as (Version n) (nat_le (length (text_of (Version n))) 8192) (option_map Version (number_in (decimal n))) (number_as Version (Version n) (λ k. tt) (number_in (decimal n)))
line_as (Timestamp n) t = short_as (Timestamp n) (nat_le (length (text_of (Timestamp n))) 8192) (option_map Timestamp (number_in (decimal n))) (number_as Timestamp (Timestamp n) (λ k. tt) (number_in (decimal n)))
line_as (PutFrom n) t = short_as (PutFrom n) (nat_le (length (text_of (PutFrom n))) 8192) (option_map PutFrom (number_in (decimal n))) (number_as PutFrom (PutFrom n) (λ k. tt) (number_in (decimal n)))
line_as (Data n) t = short_as (Data n) (nat_le (length (text_of (Data n))) 8192) (option_map Data (number_in (decimal n))) (number_as Data (Data n) (λ k. tt) (number_in (decimal n)))
line_as AlreadyHave t = tt
line_as Valid t = tt
line_as Invalid t = tt
line_as Success t = tt
line_as Failure t = tt
line_as (Error text) t = short_as (Error text) (nat_le (length (text_of (Error text))) 8192) (option_map Error (text_in text)) (text_as text (_))
line_as (CheckPresent key) t = absurd (cc)
line_as (LockContent key) t = absurd (cc)
line_as (UnlockContent key) t = absurd (cc)
line_as (Remove key) t = absurd (cc)
line_as (RemoveBefore n key) t = absurd (cc)
line_as GetTimestamp t = absurd (cc)
line_as (Get n file key) t = absurd (cc)
line_as (Put file key) t = absurd (cc)

-- a line that is read has a message
pub alike : (m : Message) → tells m ≡ true → (k : Message) → message_of (text_of m) ≡ Some k → Alike m k
alike m t k is = subst (ReadAs m) is (line_as m t)

pub error_alike : (text : List ℕ) (k : Message) → message_of (text_of (Error text)) ≡ Some k → Alike (Error text) k
error_alike text k is = subst (ReadAs (Error text)) is (short_as (Error text) (nat_le (length (text_of (Error text))) 8192) (option_map Error (text_in text)) (text_as text (_)))

-- a message of its kind completes an answer as it does
pub alike_completes : (m k : Message) → Alike m k → completes m ≡ completes k
alike_completes (AuthSuccess i) (AuthSuccess k) h = refl
alike_completes (Version i) (Version k) h = refl
alike_completes (Timestamp i) (Timestamp k) h = refl
alike_completes (PutFrom i) (PutFrom k) h = refl
alike_completes AlreadyHave AlreadyHave h = refl
alike_completes (Data i) (Data k) h = refl
alike_completes Valid Valid h = refl
alike_completes Invalid Invalid h = refl
alike_completes Success Success h = refl
alike_completes Failure Failure h = refl
alike_completes (Error s) (Error t) h = ap (λ x. bytes_eq x (codes "busy")) h
alike_completes m k h = absurd h

unexpected_as : ReadAs (Error (codes "unexpected")) (message_of (text_of (Error (codes "unexpected"))))
unexpected_as = short_as (Error (codes "unexpected")) (nat_le (length (text_of (Error (codes "unexpected")))) 8192) (option_map Error (text_in (codes "unexpected"))) (text_as (codes "unexpected") (_))

pub odd_alike : (k : Message) → message_of (text_of (Error (codes "unexpected"))) ≡ Some k → Alike (Error (codes "unexpected")) k
odd_alike k is = subst (ReadAs (Error (codes "unexpected"))) is unexpected_as

unexpected_line : is_answer (said_line (message_of (text_of (Error (codes "unexpected"))))) ≡ false
unexpected_line = go (message_of (text_of (Error (codes "unexpected")))) unexpected_as
  where
    go : (o : Option Message) → ReadAs (Error (codes "unexpected")) o → is_answer (said_line o) ≡ false
    go None h = refl
    go (Some k) h = sym (alike_completes (Error (codes "unexpected")) k h)

-- ---- frames

-- a line and its message
pub said_is : (body : FrameText) (m : Message) → line_in body ≡ Some m → message_in body ≡ Says m
unfolding message_in
said_is Opening m e = absurd (cc)
said_is Closing m e = absurd (cc)
said_is (Bytes n) m e = absurd (cc)
said_is (Line text) m e = ap said_line e

pub is_said : (body : FrameText) (m : Message) → message_in body ≡ Says m → line_in body ≡ Some m
unfolding message_in
is_said Opening m h = absurd (cc)
is_said Closing m h = absurd (cc)
is_said (Bytes n) m h = absurd (cc)
is_said (Line text) m h = go (line_in (Line text)) h
  where
    go : (o : Option Message) → said_line o ≡ Says m → o ≡ Some m
    go None e = absurd (cc)
    go (Some x) e = cc

pub said_line-is : (text : List ℕ) → message_in (Line text) ≡ said_line (message_of text)
unfolding message_in
said_line-is text = refl

pub said_opening : message_in Opening ≡ OpenIt
unfolding message_in
said_opening = refl

pub said_closing : message_in Closing ≡ CloseIt
unfolding message_in
said_closing = refl

pub said_bytes : (n : ℕ) → message_in (Bytes n) ≡ Piece
unfolding message_in
said_bytes n = refl

pub closing_ends : (b : FrameText) (k : Message) → b ≡ Closing → message_in b ≡ Says k → ⊥
closing_ends b k i e = let no' : message_in Closing ≡ Says k = sym (ap message_in i) ∙ e in let no'' = sym said_closing ∙ no' in cc

pub bytes_end : (b : FrameText) (n : ℕ) (k : Message) → b ≡ Bytes n → message_in b ≡ Says k → ⊥
bytes_end b n k i e = let no' : message_in (Bytes n) ≡ Says k = sym (ap message_in i) ∙ e in let no'' = sym (said_bytes n) ∙ no' in cc

pub odd_answer : is_answer (message_in (Line (text_of (Error (codes "unexpected"))))) ≡ false
odd_answer = ap is_answer (said_line-is (text_of (Error (codes "unexpected")))) ∙ unexpected_line
