-- A line that is read as a message is that message's line.
use Rattle.std.proofs.Common.{◌≡◌, ℕ, suc, Bool, true, false, List, [], ◌∷◌, Option, Some, None, refl, sym, ap, ◌∙◌, arith}
use Rattle.std.specs.Prelude.{◌^◌, ◌&&◌, if◌then◌else◌, nat_lt, nat_le, length, codes, bytes_eq, option_map, is_none}
use Rattle.std.specs.List.{position_or_len}
use Rattle.std.specs.Fmt.{decimal}
use Rattle.std.specs.Str.{is_utf8}
use Rattle.std.specs.Str.Parse.{digits_value}
use Rattle.std.proofs.lemmas.Bool.{eqb-true, and_parts}
use Rattle.std.proofs.lemmas.Slice.Eq.{bytes_eq-Decides}
use Rattle.std.proofs.lemmas.Option.{same_Some}
use Rattle.annex_base.specs.RepoText.{repo_text}
use Rattle.annex_key.specs.View.{first_fault}
use Rattle.annex_base.specs.RepoText.{repo_of}
use Rattle.annex_base.proofs.RepoLemmas.{repo_takes}
use Rattle.annex_base.proofs.Options.{map_some, bind_some, where_some}
use Rattle.p2p_wire.specs.declared.message.Message.{Message}
use Rattle.p2p_wire.specs.declared.message.Message.TheVariants.{AuthSuccess, Version, CheckPresent, LockContent, UnlockContent, Remove, RemoveBefore, GetTimestamp, Timestamp, Get, Put, PutFrom, AlreadyHave, Data, Valid, Invalid, Success, Failure, Error}
use Rattle.annex_base.specs.Lines.{is_space}
use Rattle.p2p_wire.specs.Messages.{◌⊳◌, alone, key_in, message_by, message_of, number_in, rest_in, text_in, text_of, then_in, with_file, with_key, with_number, with_one, word_in}

-- ---- a line is its first word, and the rest behind a space

later : (b : ℕ) (bs : List ℕ) → is_space b ≡ false → position_or_len is_space (b ∷ bs) ≡ suc (position_or_len is_space bs)
later b bs is = rw is (omega arith)

with_rest : (line rest : List ℕ) → rest_in line ≡ Some rest → word_in line ⊳ rest ≡ line
with_rest [] rest e = absurd cc
with_rest (b ∷ bs) rest e = go (with_rest bs rest) (is_space b) refl
  where
    go : (rest_in bs ≡ Some rest → word_in bs ⊳ rest ≡ bs) → (t : Bool) → is_space b ≡ t → word_in (b ∷ bs) ⊳ rest ≡ b ∷ bs
    go more true is =
        let same : bs ≡ rest = same_Some bs rest (rw is at e) in
        rw is (ap (λ (x : ℕ). x ∷ rest) (sym (eqb-true b 32 is)) ∙ ap (λ xs. b ∷ xs) (sym same))
    go more false is = rw (later b bs is) (ap (λ xs. b ∷ xs) (more (rw (later b bs is) at e)))

without_rest : (line : List ℕ) → rest_in line ≡ None → word_in line ≡ line
without_rest [] e = refl
without_rest (b ∷ bs) e = go (without_rest bs) (is_space b) refl
  where
    go : (rest_in bs ≡ None → word_in bs ≡ bs) → (t : Bool) → is_space b ≡ t → word_in (b ∷ bs) ≡ b ∷ bs
    go more true is = absurd (let no : Some bs ≡ None = rw is at e in cc)
    go more false is = rw (later b bs is) (ap (λ xs. b ∷ xs) (more (rw (later b bs is) at e)))

then_is : {X Y : Type 0} (first : List ℕ → Option X) (second : X → List ℕ → Option Y) (text : List ℕ) (y : Y) → then_in first second text ≡ Some y
    → (x : X) × (rest : List ℕ) × (first (word_in text) ≡ Some x) × (second x rest ≡ Some y) × (word_in text ⊳ rest ≡ text)
then_is first second text y e =
    let r = bind_some (rest_in text) _ y e in
    let x = bind_some (first (word_in text)) _ y r.2 in
    (x.0, r.0, x.1, x.2, with_rest text r.0 r.1)

-- ---- what is read of a word

number_is : (word : List ℕ) (n : ℕ) → number_in word ≡ Some n → decimal n ≡ word
number_is word n e =
    let x = where_some (nat_lt (digits_value 10 word) (2 ^ 63) && bytes_eq (decimal (digits_value 10 word)) word) (Some (digits_value 10 word)) n e in
    ap decimal (sym (same_Some (digits_value 10 word) n x.1)) ∙ (bytes_eq-Decides (decimal (digits_value 10 word)) word).0 (and_parts _ _ x.0).1

key_is : (text key : List ℕ) → key_in text ≡ Some key → key ≡ text
key_is text key e = sym (same_Some text key (where_some (is_none (first_fault text)) (Some text) key e).1)

utf8_is : (text read : List ℕ) → text_in text ≡ Some read → read ≡ text
utf8_is text read e = sym (same_Some text read (where_some (is_utf8 text) (Some text) read e).1)

id_is : (text id : List ℕ) → repo_of text ≡ Some id → repo_text id ≡ text
id_is text id e = sym (repo_takes text id e).1

-- ---- the message of a first word

-- the word is this name, or else
named : {P : Type 0} (word name : List ℕ) (one other : Option Message) (m : Message) → (word ≡ name → one ≡ Some m → P) → (other ≡ Some m → P)
    → (if bytes_eq word name then one else other) ≡ Some m → P
named {P = P} word name one other m this else' e = go (bytes_eq word name) refl
  where
    go : (t : Bool) → bytes_eq word name ≡ t → P
    go true is = this ((bytes_eq-Decides word name).0 is) (rw is at e)
    go false is = else' (rw is at e)

-- it stands alone
said : (word name : List ℕ) (one m : Message) → text_of one ≡ name → word ≡ name → Some one ≡ Some m → text_of m ≡ word
said word name one m text is same = ap text_of (sym (same_Some one m same)) ∙ text ∙ sym is

-- one thing follows it
with_thing : {X : Type 0} (read : List ℕ → Option X) (write : X → List ℕ) → ((text : List ℕ) (x : X) → read text ≡ Some x → write x ≡ text)
    → (make : X → Message) (word name rest : List ℕ) (m : Message) → ((x : X) → text_of (make x) ≡ name ⊳ write x)
    → word ≡ name → option_map make (read rest) ≡ Some m → text_of m ≡ word ⊳ rest
with_thing read write back make word name rest m text is e =
    let x = map_some (read rest) make m e in
    ap text_of (sym x.2) ∙ text x.0 ∙ ap (λ (w : List ℕ). w ⊳ write x.0) (sym is) ∙ ap (λ (r : List ℕ). word ⊳ r) (back rest x.0 x.1)

alone_is : (word : List ℕ) (m : Message) → alone word ≡ Some m → text_of m ≡ word
alone_is word m e =
    named word (codes "SUCCESS") (Some Success) _ m (said word (codes "SUCCESS") Success m refl)
    (named word (codes "FAILURE") (Some Failure) _ m (said word (codes "FAILURE") Failure m refl)
    (named word (codes "VALID") (Some Valid) _ m (said word (codes "VALID") Valid m refl)
    (named word (codes "INVALID") (Some Invalid) _ m (said word (codes "INVALID") Invalid m refl)
    (named word (codes "ALREADY-HAVE") (Some AlreadyHave) _ m (said word (codes "ALREADY-HAVE") AlreadyHave m refl)
    (named word (codes "GETTIMESTAMP") (Some GetTimestamp) None m (said word (codes "GETTIMESTAMP") GetTimestamp m refl)
    (λ none. absurd cc)))))) e

one_is : (word rest : List ℕ) (m : Message) → with_one word rest ≡ Some m → text_of m ≡ word ⊳ rest
one_is word rest m e =
    named word (codes "VERSION") (option_map Version (number_in rest)) _ m (with_thing number_in decimal number_is Version word (codes "VERSION") rest m (λ n. refl))
    (named word (codes "TIMESTAMP") (option_map Timestamp (number_in rest)) _ m (with_thing number_in decimal number_is Timestamp word (codes "TIMESTAMP") rest m (λ n. refl))
    (named word (codes "PUT-FROM") (option_map PutFrom (number_in rest)) _ m (with_thing number_in decimal number_is PutFrom word (codes "PUT-FROM") rest m (λ n. refl))
    (named word (codes "DATA") (option_map Data (number_in rest)) _ m (with_thing number_in decimal number_is Data word (codes "DATA") rest m (λ n. refl))
    (named word (codes "AUTH-SUCCESS") (option_map AuthSuccess (repo_of rest)) _ m (with_thing repo_of repo_text id_is AuthSuccess word (codes "AUTH-SUCCESS") rest m (λ id. refl))
    (named word (codes "ERROR") (option_map Error (text_in rest)) None m (with_thing text_in (λ t. t) utf8_is Error word (codes "ERROR") rest m (λ t. refl))
    (λ none. absurd cc)))))) e

-- a file and a key
file_is : (make : List ℕ → List ℕ → Message) (text : List ℕ) (m : Message) → with_file make text ≡ Some m → (file key : List ℕ) × (make file key ≡ m) × (file ⊳ key ≡ text)
file_is make text m e =
    let t = then_is (λ (word : List ℕ). Some word) (λ file rest. option_map (make file) (key_in rest)) text m e in
    let k = map_some (key_in t.1) (make t.0) m t.3 in
    (t.0, k.0, k.2, ap (λ (r : List ℕ). t.0 ⊳ r) (key_is t.1 k.0 k.1) ∙ ap (λ (w : List ℕ). w ⊳ t.1) (sym (same_Some (word_in text) t.0 t.2)) ∙ t.4)

before_is : (word rest : List ℕ) (m : Message) → word ≡ codes "REMOVE-BEFORE" → with_number RemoveBefore rest ≡ Some m → text_of m ≡ word ⊳ rest
before_is word rest m is e =
    let t = then_is number_in (λ n r. option_map (RemoveBefore n) (key_in r)) rest m e in
    let k = map_some (key_in t.1) (RemoveBefore t.0) m t.3 in
    ap text_of (sym k.2) ∙ ap (λ (w : List ℕ). w ⊳ decimal t.0 ⊳ k.0) (sym is)
    ∙ ap (λ (r : List ℕ). word ⊳ decimal t.0 ⊳ r) (key_is t.1 k.0 k.1) ∙ ap (λ (d : List ℕ). word ⊳ d ⊳ t.1) (number_is (word_in rest) t.0 t.2) ∙ ap (λ (r : List ℕ). word ⊳ r) t.4

get_is : (word rest : List ℕ) (m : Message) → word ≡ codes "GET" → then_in number_in (λ n text. with_file (Get n) text) rest ≡ Some m → text_of m ≡ word ⊳ rest
get_is word rest m is e =
    let t = then_is number_in (λ n text. with_file (Get n) text) rest m e in
    let f = file_is (Get t.0) t.1 m t.3 in
    ap text_of (sym f.2) ∙ ap (λ (w : List ℕ). w ⊳ decimal t.0 ⊳ f.0 ⊳ f.1) (sym is)
    ∙ ap (λ (r : List ℕ). word ⊳ decimal t.0 ⊳ r) f.3 ∙ ap (λ (d : List ℕ). word ⊳ d ⊳ t.1) (number_is (word_in rest) t.0 t.2) ∙ ap (λ (r : List ℕ). word ⊳ r) t.4

put_is : (word rest : List ℕ) (m : Message) → word ≡ codes "PUT" → with_file Put rest ≡ Some m → text_of m ≡ word ⊳ rest
put_is word rest m is e =
    let f = file_is Put rest m e in
    ap text_of (sym f.2) ∙ ap (λ (w : List ℕ). w ⊳ f.0 ⊳ f.1) (sym is) ∙ ap (λ (r : List ℕ). word ⊳ r) f.3

with_key_is : (word rest : List ℕ) (m : Message) → with_key word rest ≡ Some m → text_of m ≡ word ⊳ rest
with_key_is word rest m e =
    named word (codes "LOCKCONTENT") (option_map LockContent (key_in rest)) _ m (of_key LockContent (codes "LOCKCONTENT") (λ k. refl))
    (named word (codes "UNLOCKCONTENT") (option_map UnlockContent (key_in rest)) _ m (of_key UnlockContent (codes "UNLOCKCONTENT") (λ k. refl))
    (named word (codes "CHECKPRESENT") (option_map CheckPresent (key_in rest)) _ m (of_key CheckPresent (codes "CHECKPRESENT") (λ k. refl))
    (named word (codes "REMOVE") (option_map Remove (key_in rest)) _ m (of_key Remove (codes "REMOVE") (λ k. refl))
    (named word (codes "REMOVE-BEFORE") (with_number RemoveBefore rest) _ m (before_is word rest m)
    (named word (codes "GET") (then_in number_in (λ n text. with_file (Get n) text) rest) _ m (get_is word rest m)
    (named word (codes "PUT") (with_file Put rest) (with_one word rest) m (put_is word rest m)
    (one_is word rest m))))))) e
  where
    of_key : (make : List ℕ → Message) (name : List ℕ) → ((k : List ℕ) → text_of (make k) ≡ name ⊳ k) → word ≡ name → option_map make (key_in rest) ≡ Some m → text_of m ≡ word ⊳ rest
    of_key make name text = with_thing key_in (λ k. k) key_is make word name rest m text

-- **the line of the message that is read**
pub line_again : (line : List ℕ) (m : Message) → message_of line ≡ Some m → text_of m ≡ line
line_again line m e = go (rest_in line) refl (where_some (nat_le (length line) 8192) (message_by (word_in line) (rest_in line)) m e).1
  where
    go : (o : Option (List ℕ)) → rest_in line ≡ o → message_by (word_in line) (rest_in line) ≡ Some m → text_of m ≡ line
    go None is read = alone_is (word_in line) m (ap (message_by (word_in line)) (sym is) ∙ read) ∙ without_rest line is
    go (Some rest) is read = with_key_is (word_in line) rest m (ap (message_by (word_in line)) (sym is) ∙ read) ∙ with_rest line rest is
