-- What a repository finds is what its own entries say: the facts of an entry over the repository's own past hold over any past
-- that has these entries in this order.
use Rattle.std.proofs.Common.{◌≡◌, ℕ, Bool, true, false, not, cond, ◌&&◌, ◌||◌, List, [], ◌∷◌, ◌++◌, Option, Some, None, ◌⊎◌, inl, inr, refl, sym, ap, ◌∙◌, subst}
use Rattle.std.specs.Prelude.{filter, map, option_map, if◌then◌else◌}
use Rattle.std.specs.Option.{option_or, unwrap_or}
use Rattle.std.proofs.lemmas.List.{map-append}
use Rattle.annex_base.proofs.Options.{option_or-none}
use Rattle.run_data.specs.declared.entry.Entry.{Entry}
use Rattle.run_data.specs.declared.entry.EntryKind.{EntryKind}
use Rattle.run_data.specs.declared.entry.FrameView.{FrameView}
use Rattle.run_data.specs.declared.entry.EntryKind.TheVariants.{Begin, Gain, Talk}
use Rattle.run_model.specs.Past.{Occurs, is_of}
use Rattle.node_model.specs.Rows.{option_is}
use Rattle.run_model.specs.Said.{Said, is_request, message_in}
use Rattle.run_model.specs.Frames.{FlyingFrame, Way, flying_frame, last_of, last_request, said_of, on_way, requests, says, sender_of, frames_sent, sent_if, up_of, way_of}
use Rattle.trust_groups.specs.Settings.{settings}
use Rattle.run_model.specs.Logs.{added_by, before_step, ends_transfer, lines_ever, has_it, has_stepped, hears_has_it, in_drop, is_quiet, is_step, read_at, settings_of, starts_drop}

-- the entries of r
abbrev pub mine : ℕ → List Entry → List Entry
mine r past = filter (is_of r) past

-- a function that only the entries of r change
pub own_by : {X : Type 0} (r : ℕ) (f : List Entry → X) → ((e : Entry) (past : List Entry) → is_of r e ≡ false → f (e ∷ past) ≡ f past)
    → ((e : Entry) (past : List Entry) → is_of r e ≡ true → f past ≡ f (mine r past) → f (e ∷ past) ≡ f (e ∷ mine r past)) → (past : List Entry) → f past ≡ f (mine r past)
own_by r f other own [] = refl
own_by r f other own (e ∷ past) = go (own_by r f other own past) (is_of r e) refl
  where
    go : f past ≡ f (mine r past) → (b : Bool) → is_of r e ≡ b → f (e ∷ past) ≡ f (cond b (e ∷ mine r past) (mine r past))
    go ih true is = own e past is ih
    go ih false is = other e past is ∙ ih

-- a fold
pub own_fold : {X : Type 0} (r : ℕ) (f : List Entry → X) (g : X → Entry → X) → ((e : Entry) (past : List Entry) → f (e ∷ past) ≡ (if is_of r e then g (f past) e else f past)) → (past : List Entry) → f past ≡ f (mine r past)
own_fold r f g step = own_by r f (λ e past is. step e past ∙ ap (λ b. if b then g (f past) e else f past) is)
    (λ e past is ih. step e past ∙ ap (λ b. if b then g (f past) e else f past) is ∙ ap (λ x. g x e) ih ∙ sym (step e (mine r past) ∙ ap (λ b. if b then g (f (mine r past)) e else f (mine r past)) is))

-- ---- entries that stand

pub mine_occurs : (r : ℕ) (past : List Entry) (x : Entry) (before : List Entry) → Occurs past x before → is_of r x ≡ true → Occurs (mine r past) x (mine r before)
mine_occurs r [] x before o is = absurd o
mine_occurs r (e ∷ past) x before o is = go (λ k. mine_occurs r past x before k is) (is_of r e) refl o
  where
    go : (Occurs past x before → Occurs (mine r past) x (mine r before)) → (b : Bool) → is_of r e ≡ b → ((x ≡ e) × (before ≡ past)) ⊎ Occurs past x before → Occurs (cond b (e ∷ mine r past) (mine r past)) x (mine r before)
    go ih true h (inl k) = inl (k.0, ap (mine r) k.1)
    go ih true h (inr k) = inr (ih k)
    go ih false h (inl k) = let yes' : is_of r e ≡ true = subst (λ (y : Entry). is_of r y ≡ true) k.0 is in let it : true ≡ false = sym yes' ∙ h in absurd (cc)
    go ih false h (inr k) = ih k

-- ---- frames

-- a frame and the entry that sent it
pub record Bare : Type 0 where
  pub frame : FrameView
  pub entry : Entry

abbrev pub bare : FlyingFrame → Bare
bare x = record { frame = x.frame; entry = x.entry }

bare_flying : (e : Entry) (p q : List Entry) (gs : List FrameView) → map bare (map (flying_frame e p) gs) ≡ map bare (map (flying_frame e q) gs)
bare_flying e p q [] = refl
bare_flying e p q (g ∷ gs) = ap (λ zs. record { frame = g; entry = e } ∷ zs) (bare_flying e p q gs)

pub own_sent : (r : ℕ) (w : Way) → sender_of w ≡ r → (past : List Entry) → map bare (frames_sent past w) ≡ map bare (frames_sent (mine r past) w)
own_sent r w same past = own_by r (λ p. map bare (frames_sent p w)) (λ e p is. rw (not_mine e is) refl) (λ e p is ih. here e p (mine r p) (is_mine e is) ih) past
  where
    not_mine : (e : Entry) → is_of r e ≡ false → is_of (sender_of w) e ≡ false
    not_mine e is = subst (λ q. is_of q e ≡ false) (sym same) is

    is_mine : (e : Entry) → is_of r e ≡ true → is_of (sender_of w) e ≡ true
    is_mine e is = subst (λ q. is_of q e ≡ true) (sym same) is

    here : (e : Entry) (p q : List Entry) → is_of (sender_of w) e ≡ true → map bare (frames_sent p w) ≡ map bare (frames_sent q w) → map bare (frames_sent (e ∷ p) w) ≡ map bare (frames_sent (e ∷ q) w)
    here e p q is ih = rw is (map-append bare (frames_sent p w) (map (flying_frame e p) (on_way w e)) ∙ ap (λ xs. xs ++ map bare (map (flying_frame e p) (on_way w e))) ih
        ∙ ap (λ ys. map bare (frames_sent q w) ++ ys) (bare_flying e p q (on_way w e)) ∙ sym (map-append bare (frames_sent q w) (map (flying_frame e q) (on_way w e))))

bare_filter : (q : Said → Bool) (xs : List FlyingFrame) → map bare (filter (λ x. says q x.frame) xs) ≡ filter (λ x. says q x.frame) (map bare xs)
bare_filter q [] = refl
bare_filter q (x ∷ xs) = go (bare_filter q xs) (says q x.frame)
  where
    go : map bare (filter (λ y. says q y.frame) xs) ≡ filter (λ y. says q y.frame) (map bare xs) → (b : Bool)
        → map bare (cond b (x ∷ filter (λ y. says q y.frame) xs) (filter (λ y. says q y.frame) xs)) ≡ cond b (bare x ∷ filter (λ y. says q y.frame) (map bare xs)) (filter (λ y. says q y.frame) (map bare xs))
    go ih true = ap (λ zs. bare x ∷ zs) ih
    go ih false = ih

pub own_sent_if : (q : Said → Bool) (r : ℕ) (w : Way) → sender_of w ≡ r → (past : List Entry) → map bare (sent_if q past w) ≡ map bare (sent_if q (mine r past) w)
own_sent_if q r w same past = bare_filter q (frames_sent past w) ∙ ap (filter (λ x. says q x.frame)) (own_sent r w same past) ∙ sym (bare_filter q (frames_sent (mine r past) w))

last_map : {X Y : Type 0} (f : X → Y) (xs : List X) → last_of (map f xs) ≡ option_map f (last_of xs)
last_map f [] = refl
last_map f (x ∷ []) = refl
last_map f (x ∷ y ∷ ys) = last_map f (y ∷ ys)

pub own_last : (r : ℕ) (w : Way) → sender_of w ≡ r → (past : List Entry) → option_map bare (last_request past w) ≡ option_map bare (last_request (mine r past) w)
own_last r w same past = sym (last_map bare (requests past w)) ∙ ap last_of (own_sent_if is_request r w same past) ∙ last_map bare (requests (mine r past) w)

-- ---- logs

pub own_ever : (r : ℕ) (path : List ℕ) (past : List Entry) → lines_ever past r path ≡ lines_ever (mine r past) r path
own_ever r path past = own_fold r (λ p. lines_ever p r path) (λ x e. added_by path e.kind e.lines ++ x) (λ e p. refl) past

pub own_lines : (r : ℕ) (past : List Entry) → lines_ever past r ≡ lines_ever (mine r past) r
own_lines r past = λ i. λ path. own_ever r path past i

pub own_settings : (r : ℕ) (past : List Entry) → settings_of past r ≡ settings_of (mine r past) r
own_settings r past = ap settings (own_lines r past)

if_and : (a b c : Bool) → (a && b) || c ≡ (if a then b || c else c)
if_and true b c = refl
if_and false b c = refl

own_stepped : (r j : ℕ) (past : List Entry) → has_stepped past r j ≡ has_stepped (mine r past) r j
own_stepped r j past = own_fold r (λ p. has_stepped p r j) (λ x e. is_step j e.kind || x) (λ e p. if_and (is_of r e) (is_step j e.kind) (has_stepped p r j)) past

-- ---- the last request that a client sent

abbrev said_by : Option Bare → Option Said
said_by o = option_map (λ b. message_in b.frame.body) o

said_is : (o : Option FlyingFrame) → option_map said_of o ≡ said_by (option_map bare o)
said_is None = refl
said_is (Some x) = refl

pub client_of : (r : ℕ) (f : FrameView) → f.up ≡ false → sender_of (up_of (way_of r f)) ≡ r
client_of r f h = rw h refl

pub own_said : (r : ℕ) (f : FrameView) → f.up ≡ false → (past : List Entry) → option_map said_of (last_request past (up_of (way_of r f))) ≡ option_map said_of (last_request (mine r past) (up_of (way_of r f)))
own_said r f down past = said_is (last_request past (up_of (way_of r f))) ∙ ap said_by (own_last r (up_of (way_of r f)) (client_of r f down) past) ∙ sym (said_is (last_request (mine r past) (up_of (way_of r f))))

own_has_it : (r : ℕ) (o : Option FrameView) (past : List Entry) → hears_has_it past r o ≡ hears_has_it (mine r past) r o
own_has_it r None past = refl
own_has_it r (Some f) past = go f.up refl
  where
    go : (up : Bool) → f.up ≡ up → (not up && has_it (message_in f.body) (option_map said_of (last_request past (up_of (way_of r f)))))
        ≡ (not up && has_it (message_in f.body) (option_map said_of (last_request (mine r past) (up_of (way_of r f)))))
    go true h = refl
    go false h = ap (λ o. has_it (message_in f.body) o) (own_said r f h past)

-- ---- the first step of a drop

own_ends : (r j : ℕ) (e : Entry) (kind : EntryKind) (past : List Entry) → ends_transfer past r j e kind ≡ ends_transfer (mine r past) r j e kind
own_ends r j e (Gain source size key) past = refl
own_ends r j e (Talk job) past = ap (λ b. option_is job j && ((is_quiet e.taken e.sent && not b) || hears_has_it past r e.taken)) (own_stepped r j past)
    ∙ ap (λ b. option_is job j && ((is_quiet e.taken e.sent && not (has_stepped (mine r past) r j)) || b)) (own_has_it r e.taken past)
own_ends r j e _ past = refl

own_starts : (r j : ℕ) (e : Entry) (kind : EntryKind) (past : List Entry) → starts_drop past r j e kind ≡ starts_drop (mine r past) r j e kind
own_starts r j e (Begin job what) past = refl
own_starts r j e (Gain source size key) past = refl
own_starts r j e (Talk job) past = own_ends r j e (Talk job) past
own_starts r j e _ past = refl

or_nothing : (b c : Bool) → c ≡ false → b || c ≡ b
or_nothing true c h = refl
or_nothing false c h = h

pub own_in_drop : (r j : ℕ) (past : List Entry) → in_drop past r j ≡ in_drop (mine r past) r j
own_in_drop r j past = own_by r (λ p. in_drop p r j)
    (λ e p is. or_nothing (in_drop p r j) (is_of r e && starts_drop p r j e e.kind) (rw is refl))
    (λ e p is ih. ap (λ b. b || (is_of r e && starts_drop p r j e e.kind)) ih ∙ ap (λ b. in_drop (mine r p) r j || (is_of r e && b)) (own_starts r j e e.kind p)) past

pub own_before : (r j : ℕ) (past : List Entry) → before_step (mine r past) r j ≡ option_map (mine r) (before_step past r j)
own_before r j [] = refl
own_before r j (e ∷ past) = go (own_before r j past) (is_of r e) refl
  where
    here : (o : Option (List Entry)) (b : Bool) → option_or (option_map (mine r) o) (if b then Some (mine r past) else None) ≡ option_map (mine r) (option_or o (if b then Some past else None))
    here None true = refl
    here None false = refl
    here (Some x) b = refl

    go : before_step (mine r past) r j ≡ option_map (mine r) (before_step past r j) → (b : Bool) → is_of r e ≡ b
        → before_step (cond b (e ∷ mine r past) (mine r past)) r j ≡ option_map (mine r) (option_or (before_step past r j) (if b && (is_step j e.kind && in_drop past r j) then Some past else None))
    go ih true is = ap (λ o. option_or (before_step (mine r past) r j) (if o && (is_step j e.kind && in_drop (mine r past) r j) then Some (mine r past) else None)) is
        ∙ ap (λ o. option_or o (if is_step j e.kind && in_drop (mine r past) r j then Some (mine r past) else None)) ih
        ∙ ap (λ b. option_or (option_map (mine r) (before_step past r j)) (if is_step j e.kind && b then Some (mine r past) else None)) (sym (own_in_drop r j past))
        ∙ here (before_step past r j) (is_step j e.kind && in_drop past r j)
    go ih false is = ih ∙ ap (option_map (mine r)) (sym (option_or-none (before_step past r j)))

own_read : (r j : ℕ) (past : List Entry) → read_at (mine r past) r j ≡ mine r (read_at past r j)
own_read r j past = ap (λ o. unwrap_or o (mine r past)) (own_before r j past) ∙ out (before_step past r j)
  where
    out : (o : Option (List Entry)) → unwrap_or (option_map (mine r) o) (mine r past) ≡ mine r (unwrap_or o past)
    out None = refl
    out (Some x) = refl

pub own_reading : (r j : ℕ) (past : List Entry) → settings_of (read_at past r j) r ≡ settings_of (read_at (mine r past) r j) r
own_reading r j past = own_settings r (read_at past r j) ∙ ap (λ p. settings_of p r) (sym (own_read r j past))
