-- What an entry leaves of the stores is told from that of its repository alone.
use Rattle.std.proofs.Common.{◌≡◌, ◌≢◌, ℕ, Bool, true, false, List, [], ◌∷◌, ◌++◌, Option, Some, None, refl, sym, ap, ◌∙◌}
use Rattle.std.specs.Prelude.{if◌then◌else◌, ◌==◌, bytes_eq, filter, find, length, not}
use Rattle.std.proofs.lemmas.Bool.{and_parts, eqb-true}
use Rattle.annex_base.specs.Calls.{same_call}
use Rattle.annex_base.specs.declared.kinds.Call.{Call}
use Rattle.annex_base.proofs.Conditions.{eqb_refl}
use Rattle.annex_base.proofs.Lists.{filter_no, filter_yes}
use Rattle.run_data.specs.declared.entry.EntryKind.{EntryKind}
use Rattle.run_data.specs.declared.entry.EntryKind.TheVariants.{Gain, Gone, Talk, Fault}
use Rattle.run_data.specs.declared.entry.FrameView.{FrameView}
use Rattle.run_data.specs.declared.entry.FrameText.{FrameText}
use Rattle.run_data.specs.declared.entry.FrameText.TheVariants.{Bytes, Line}
use Rattle.node_model.specs.Look.{Effect}
use Rattle.node_model.specs.Sessions.{line_in, message_said}
use Rattle.node_model.specs.State.{State}
use Rattle.driver_model.specs.Driver.{Driver, DriverInput, FailLine, but_first, drops_part, fails_at, is_failing, part_at, puts_part}
use Rattle.driver_model.specs.Stores.{StoredBytes, bytes_in, is_stored, stored_bytes, with_bytes, without}
use Rattle.driver_model.specs.Turning.{asked_key, is_failure, is_valid, part_right, part_size, store_after, takes_frame, takes_into}
use Rattle.std.specs.List.{list_any}
use Rattle.block_model.specs.Alone.{IsAlone}

-- ---- lists

module _ {X : Type 0} where
  -- two filters commute
  filters_swap : (p q : X → Bool) (xs : List X) → filter p (filter q xs) ≡ filter q (filter p xs)
  filters_swap p q [] = refl
  filters_swap p q (x ∷ xs) = go (filters_swap p q xs) (p x) refl (q x) refl
    where
      go : filter p (filter q xs) ≡ filter q (filter p xs) → (b : Bool) → p x ≡ b → (c : Bool) → q x ≡ c → filter p (filter q (x ∷ xs)) ≡ filter q (filter p (x ∷ xs))
      go more true i true j = ap (filter p) (filter_yes q x xs j) ∙ filter_yes p x (filter q xs) i ∙ ap (λ zs. x ∷ zs) more ∙ sym (ap (filter q) (filter_yes p x xs i) ∙ filter_yes q x (filter p xs) j)
      go more true i false j = ap (filter p) (filter_no q x xs j) ∙ more ∙ sym (ap (filter q) (filter_yes p x xs i) ∙ filter_no q x (filter p xs) j)
      go more false i true j = ap (filter p) (filter_yes q x xs j) ∙ filter_no p x (filter q xs) i ∙ more ∙ sym (ap (filter q) (filter_no p x xs i))
      go more false i false j = ap (filter p) (filter_no q x xs j) ∙ more ∙ sym (ap (filter q) (filter_no p x xs i))

  -- a filter that keeps all that another keeps changes nothing before it
  pub filter_kept : (p q : X → Bool) → ((x : X) → p x ≡ true → q x ≡ true) → (xs : List X) → filter p (filter q xs) ≡ filter p xs
  filter_kept p q f [] = refl
  filter_kept p q f (x ∷ xs) = go (filter_kept p q f xs) (p x) refl (q x) refl
    where
      go : filter p (filter q xs) ≡ filter p xs → (b : Bool) → p x ≡ b → (c : Bool) → q x ≡ c → filter p (filter q (x ∷ xs)) ≡ filter p (x ∷ xs)
      go more true i true j = ap (filter p) (filter_yes q x xs j) ∙ filter_yes p x (filter q xs) i ∙ ap (λ zs. x ∷ zs) more ∙ sym (filter_yes p x xs i)
      go more true i false j = absurd (let no' : true ≡ false = sym (f x i) ∙ j in cc)
      go more false i true j = ap (filter p) (filter_yes q x xs j) ∙ filter_no p x (filter q xs) i ∙ more ∙ sym (filter_no p x xs i)
      go more false i false j = ap (filter p) (filter_no q x xs j) ∙ more ∙ sym (filter_no p x xs i)

  pub find_kept : (p q : X → Bool) → ((x : X) → p x ≡ true → q x ≡ true) → (xs : List X) → find p (filter q xs) ≡ find p xs
  find_kept p q f [] = refl
  find_kept p q f (x ∷ xs) = go (find_kept p q f xs) (p x) refl (q x) refl
    where
      go : find p (filter q xs) ≡ find p xs → (b : Bool) → p x ≡ b → (c : Bool) → q x ≡ c → find p (filter q (x ∷ xs)) ≡ find p (x ∷ xs)
      go more true i true j = ap (find p) (filter_yes q x xs j) ∙ rw i refl
      go more true i false j = absurd (let no' : true ≡ false = sym (f x i) ∙ j in cc)
      go more false i true j = ap (find p) (filter_yes q x xs j) ∙ rw i more
      go more false i false j = ap (find p) (filter_no q x xs j) ∙ more ∙ rw i refl

  any_kept : (p q : X → Bool) → ((x : X) → p x ≡ true → q x ≡ true) → (xs : List X) → list_any p (filter q xs) ≡ list_any p xs
  any_kept p q f [] = refl
  any_kept p q f (x ∷ xs) = go (any_kept p q f xs) (p x) refl (q x) refl
    where
      go : list_any p (filter q xs) ≡ list_any p xs → (b : Bool) → p x ≡ b → (c : Bool) → q x ≡ c → list_any p (filter q (x ∷ xs)) ≡ list_any p (x ∷ xs)
      go more true i true j = ap (list_any p) (filter_yes q x xs j) ∙ rw i refl
      go more true i false j = absurd (let no' : true ≡ false = sym (f x i) ∙ j in cc)
      go more false i true j = ap (list_any p) (filter_yes q x xs j) ∙ rw i more
      go more false i false j = ap (list_any p) (filter_no q x xs j) ∙ more ∙ rw i refl

  pub but_yes : (p : X → Bool) (x : X) (xs : List X) → p x ≡ true → but_first p (x ∷ xs) ≡ xs
  but_yes p x xs i = rw i refl

  pub but_no : (p : X → Bool) (x : X) (xs : List X) → p x ≡ false → but_first p (x ∷ xs) ≡ x ∷ but_first p xs
  but_no p x xs i = rw i refl

  -- the first to which a test applies goes from what a weaker test keeps
  pub but_first_kept : (p q : X → Bool) → ((x : X) → p x ≡ true → q x ≡ true) → (xs : List X) → filter q (but_first p xs) ≡ but_first p (filter q xs)
  but_first_kept p q f [] = refl
  but_first_kept p q f (x ∷ xs) = go (but_first_kept p q f xs) (p x) refl (q x) refl
    where
      go : filter q (but_first p xs) ≡ but_first p (filter q xs) → (b : Bool) → p x ≡ b → (c : Bool) → q x ≡ c → filter q (but_first p (x ∷ xs)) ≡ but_first p (filter q (x ∷ xs))
      go more true i true j = ap (filter q) (but_yes p x xs i) ∙ sym (ap (but_first p) (filter_yes q x xs j) ∙ but_yes p x (filter q xs) i)
      go more true i false j = absurd (let no' : true ≡ false = sym (f x i) ∙ j in cc)
      go more false i true j = ap (filter q) (but_no p x xs i) ∙ filter_yes q x (but_first p xs) j ∙ ap (λ zs. x ∷ zs) more ∙ sym (ap (but_first p) (filter_yes q x xs j) ∙ but_no p x (filter q xs) i)
      go more false i false j = ap (filter q) (but_no p x xs i) ∙ filter_no q x (but_first p xs) j ∙ more ∙ sym (ap (but_first p) (filter_no q x xs j))

  -- and none from what a test keeps that never applies with it
  but_first_other : (p q : X → Bool) → ((x : X) → p x ≡ true → q x ≡ false) → (xs : List X) → filter q (but_first p xs) ≡ filter q xs
  but_first_other p q f [] = refl
  but_first_other p q f (x ∷ xs) = go (but_first_other p q f xs) (p x) refl (q x) refl
    where
      go : filter q (but_first p xs) ≡ filter q xs → (b : Bool) → p x ≡ b → (c : Bool) → q x ≡ c → filter q (but_first p (x ∷ xs)) ≡ filter q (x ∷ xs)
      go more true i c j = ap (filter q) (but_yes p x xs i) ∙ sym (filter_no q x xs (f x i))
      go more false i true j = ap (filter q) (but_no p x xs i) ∙ filter_yes q x (but_first p xs) j ∙ ap (λ zs. x ∷ zs) more ∙ sym (filter_yes q x xs j)
      go more false i false j = ap (filter q) (but_no p x xs i) ∙ filter_no q x (but_first p xs) j ∙ more ∙ sym (filter_no q x xs j)

-- ---- what is of one repository

its : ℕ → StoredBytes → Bool
its r x = x.repo == r

stored_its : (r : ℕ) (key : List ℕ) (x : StoredBytes) → is_stored r key x ≡ true → (x.repo == r) ≡ true
stored_its r key x e = (and_parts (x.repo == r) (bytes_eq x.key key) e).0

pub stored_own : (r : ℕ) (key : List ℕ) (xs : List StoredBytes) → stored_bytes (filter (λ x. x.repo == r) xs) r key ≡ stored_bytes xs r key
stored_own r key xs = ap bytes_in (find_kept (is_stored r key) (λ x. x.repo == r) (stored_its r key) xs)

with_own : (r : ℕ) (key bytes : List ℕ) (xs : List StoredBytes) → with_bytes (filter (λ x. x.repo == r) xs) r key bytes ≡ filter (λ x. x.repo == r) (with_bytes xs r key bytes)
with_own r key bytes xs = ap (λ zs. record { repo = r; key = key; bytes = bytes } ∷ zs) (filters_swap (λ x. not (is_stored r key x)) (λ x. x.repo == r) xs)
    ∙ sym (filter_yes (λ (x : StoredBytes). x.repo == r) (record { repo = r; key = key; bytes = bytes }) (without xs r key) (eqb_refl r))

without_own : (r : ℕ) (key : List ℕ) (xs : List StoredBytes) → without (filter (λ x. x.repo == r) xs) r key ≡ filter (λ x. x.repo == r) (without xs r key)
without_own r key xs = filters_swap (λ x. not (is_stored r key x)) (λ x. x.repo == r) xs

differs : (q r : ℕ) → q ≢ r → (r == q) ≡ false
differs q r apart = go (r == q) refl
  where
    go : (b : Bool) → (r == q) ≡ b → b ≡ false
    go false e = refl
    go true e = absurd (apart (sym (eqb-true r q e)))

without_other : (q r : ℕ) → q ≢ r → (key : List ℕ) (xs : List StoredBytes) → filter (λ x. x.repo == q) (without xs r key) ≡ filter (λ x. x.repo == q) xs
without_other q r apart key xs = filter_kept (λ x. x.repo == q) (λ x. not (is_stored r key x)) keeps xs
  where
    keeps : (x : StoredBytes) → (x.repo == q) ≡ true → not (is_stored r key x) ≡ true
    keeps x e = go (is_stored r key x) refl
      where
        go : (b : Bool) → is_stored r key x ≡ b → not b ≡ true
        go false i = refl
        go true i = absurd (apart (sym (eqb-true x.repo q e) ∙ eqb-true x.repo r (stored_its r key x i)))

with_other : (q r : ℕ) → q ≢ r → (key bytes : List ℕ) (xs : List StoredBytes) → filter (λ x. x.repo == q) (with_bytes xs r key bytes) ≡ filter (λ x. x.repo == q) xs
with_other q r apart key bytes xs = filter_no (λ (x : StoredBytes). x.repo == q) (record { repo = r; key = key; bytes = bytes }) (without xs r key) (differs q r apart) ∙ without_other q r apart key xs

failing_its : (r : ℕ) (call : Call) (x : FailLine) → is_failing r call x ≡ true → (x.repo == r) ≡ true
failing_its r call x e = (and_parts (x.repo == r) (same_call x.call call) e).0

-- ---- a step's store

module _ (d : Driver) (r : ℕ) (own : Driver) (x : IsAlone d r own) where
  pub part_alone : (key : List ℕ) → part_at own r key ≡ part_at d r key
  part_alone key = ap (λ zs. stored_bytes zs r key) x.parts ∙ stored_own r key d.parts

  pub content_alone : (key : List ℕ) → stored_bytes own.contents r key ≡ stored_bytes d.contents r key
  content_alone key = ap (λ zs. stored_bytes zs r key) x.contents ∙ stored_own r key d.contents

  pub size_alone : (o : Option (List ℕ)) → part_size own r o ≡ part_size d r o
  size_alone None = refl
  size_alone (Some key) = ap length (part_alone key)

  pub right_alone : (g : DriverInput) (o : Option (List ℕ)) → part_right g own r o ≡ part_right g d r o
  right_alone g None = refl
  right_alone g (Some key) = ap (g.matches key) (part_alone key)

  pub fails_alone : (call : Call) → fails_at own r call ≡ fails_at d r call
  fails_alone call = ap (list_any (is_failing r call)) x.fails ∙ any_kept (is_failing r call) (λ x. x.repo == r) (failing_its r call) d.fails

  puts_alone : (key bytes more : List ℕ) → bytes ≡ more → IsAlone (puts_part r key more d) r (puts_part r key bytes own)
  puts_alone key bytes more e = record { past = x.past; fails = x.fails; contents = x.contents; parts = ap (λ b. with_bytes own.parts r key b) e ∙ ap (λ zs. with_bytes zs r key more) x.parts ∙ with_own r key more d.parts }

  drops_alone : (key : List ℕ) → IsAlone (drops_part r key d) r (drops_part r key own)
  drops_alone key = record { past = x.past; fails = x.fails; contents = x.contents; parts = ap (λ zs. without zs r key) x.parts ∙ without_own r key d.parts }

  into_alone : (key bytes : List ℕ) (body : FrameText) (sent : List FrameView) → IsAlone (takes_into r key bytes body sent d) r (takes_into r key bytes body sent own)
  into_alone key bytes (Bytes n) [] = puts_alone key (part_at own r key ++ bytes) (part_at d r key ++ bytes) (ap (λ zs. zs ++ bytes) (part_alone key))
  into_alone key bytes (Line text) sent = go (is_valid (line_in (Line text))) (is_failure (message_said sent))
    where
      go : (b c : Bool) → IsAlone (if b then (if c then drops_part r key d else d) else d) r (if b then (if c then drops_part r key own else own) else own)
      go true true = drops_alone key
      go true false = x
      go false c = x
  into_alone key bytes body sent = x

  frame_alone : (bytes : List ℕ) (key : Option (List ℕ)) (taken : Option FrameView) (sent : List FrameView) → IsAlone (takes_frame r bytes key taken sent d) r (takes_frame r bytes key taken sent own)
  frame_alone bytes (Some key) (Some f) sent = into_alone key bytes f.body sent
  frame_alone bytes key taken sent = x

  pub store_alone : (st : State) (m : Effect) (bytes : List ℕ) (kind : EntryKind) → IsAlone (store_after st r m bytes kind d) r (store_after st r m bytes kind own)
  store_alone st m bytes (Gain by size key) = record {
    past = x.past;
    fails = x.fails;
    contents = ap (λ b. with_bytes own.contents r key b) (part_alone key) ∙ ap (λ zs. with_bytes zs r key (part_at d r key)) x.contents ∙ with_own r key (part_at d r key) d.contents;
    parts = ap (λ zs. without zs r key) x.parts ∙ without_own r key d.parts;
  }
  store_alone st m bytes (Gone by key) = record { past = x.past; fails = x.fails; contents = ap (λ zs. without zs r key) x.contents ∙ without_own r key d.contents; parts = x.parts }
  store_alone st m bytes (Talk job) = frame_alone bytes (asked_key st m) m.taken m.sent
  store_alone st m bytes (Fault call by) = record { past = x.past; fails = ap (but_first (is_failing r call)) x.fails ∙ sym (but_first_kept (is_failing r call) (λ x. x.repo == r) (failing_its r call) d.fails); contents = x.contents; parts = x.parts }
  store_alone st m bytes kind = x

-- ---- another's store

module _ (d : Driver) (q r : ℕ) (apart : q ≢ r) (own : Driver) (x : IsAlone d q own) where
  puts_other : (key bytes : List ℕ) → IsAlone (puts_part r key bytes d) q own
  puts_other key bytes = record { past = x.past; fails = x.fails; contents = x.contents; parts = x.parts ∙ sym (with_other q r apart key bytes d.parts) }

  drops_other : (key : List ℕ) → IsAlone (drops_part r key d) q own
  drops_other key = record { past = x.past; fails = x.fails; contents = x.contents; parts = x.parts ∙ sym (without_other q r apart key d.parts) }

  into_other : (key bytes : List ℕ) (body : FrameText) (sent : List FrameView) → IsAlone (takes_into r key bytes body sent d) q own
  into_other key bytes (Bytes n) [] = puts_other key (part_at d r key ++ bytes)
  into_other key bytes (Line text) sent = go (is_valid (line_in (Line text))) (is_failure (message_said sent))
    where
      go : (b c : Bool) → IsAlone (if b then (if c then drops_part r key d else d) else d) q own
      go true true = drops_other key
      go true false = x
      go false c = x
  into_other key bytes body sent = x

  frame_other : (bytes : List ℕ) (key : Option (List ℕ)) (taken : Option FrameView) (sent : List FrameView) → IsAlone (takes_frame r bytes key taken sent d) q own
  frame_other bytes (Some key) (Some f) sent = into_other key bytes f.body sent
  frame_other bytes key taken sent = x

  failing_other : (call : Call) (y : FailLine) → is_failing r call y ≡ true → (y.repo == q) ≡ false
  failing_other call y e = ap (λ k. k == q) (eqb-true y.repo r (failing_its r call y e)) ∙ differs q r apart

  pub store_other : (st : State) (m : Effect) (bytes : List ℕ) (kind : EntryKind) → IsAlone (store_after st r m bytes kind d) q own
  store_other st m bytes (Gain by size key) = record { past = x.past; fails = x.fails; contents = x.contents ∙ sym (with_other q r apart key (part_at d r key) d.contents); parts = x.parts ∙ sym (without_other q r apart key d.parts) }
  store_other st m bytes (Gone by key) = record { past = x.past; fails = x.fails; contents = x.contents ∙ sym (without_other q r apart key d.contents); parts = x.parts }
  store_other st m bytes (Talk job) = frame_other bytes (asked_key st m) m.taken m.sent
  store_other st m bytes (Fault call by) = record { past = x.past; fails = x.fails ∙ sym (but_first_other (is_failing r call) (λ y. y.repo == q) (failing_other call) d.fails); contents = x.contents; parts = x.parts }
  store_other st m bytes kind = x
