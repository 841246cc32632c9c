-- Frames are read as they are written.
use Rattle.std.proofs.Common.{◌≡◌, ℕ, Bool, true, false, List, [], ◌∷◌, ◌++◌, length, Some, None, refl, ap, subst, ◌∙◌, append_assoc}
use Rattle.std.specs.Prelude.{codes, bytes_eq, nat_le, is_some}
use Rattle.std.specs.List.{find}
use Rattle.std.specs.Fmt.{decimal}
use Rattle.annex_base.specs.Lines.{is_one_line}
use Rattle.annex_base.proofs.Conditions.{and_second, if_same}
use Rattle.annex_base.proofs.Options.{bind_some, map_some, none_by}
use Rattle.p2p_wire.specs.Messages.{message_of}
use Rattle.run_data.specs.declared.run.RepoView.{RepoView}
use Rattle.run_data.specs.declared.entry.FrameText.{FrameText}
use Rattle.run_data.specs.declared.entry.FrameText.TheVariants as bodies
use Rattle.run_data.specs.declared.entry.FrameView.{FrameView}
use Rattle.run_text.specs.Names.{name_of}
use Rattle.script_words.specs.Marks.{behind_mark}
use Rattle.script_words.proofs.ContentLemmas.{mark_written}
use Rattle.journal_text.specs.Journal.{body_text, way_text, frame_text}
use Rattle.journal_reading.specs.Forms.{Form, one_of, passing, nothing, up_to, by_rows, row_in, row}
use Rattle.journal_reading.specs.Fields.{small, large, repo_number, is_message, IsBody, body_rows, body_form}
use Rattle.journal_reading.specs.Lines.{Parts, way_word, frame_parts, a_frame, IsFrame, frame_form}
use Rattle.journal_reading.proofs.FormLemmas.{IsForm, Lacks, is_one_of, is_passing, is_nothing, is_up_to, RowBack, is_table, row_back, row_gives, first_reads}
use Rattle.journal_reading.proofs.FieldLemmas.{AreNamed, is_small, is_large, is_repo_number, decimal_lacks}

-- a row reads nothing of a text that its form doesn't write
pub row_none : {A X : Type 0} (mark : List ℕ) (form : Form X) (made : X → A) → IsForm form → (bytes : List ℕ) → ((x : X) → form.ok x → bytes ≡ mark ++ form.text x → ⊥) → row_in bytes (row mark form made) ≡ None
row_none {A} {X} mark form made is bytes never = none_by (row_in bytes (row mark form made)) (λ y e.
    let h = bind_some (behind_mark mark bytes) (λ rest. (row mark form made).read rest) y e in
    let g = map_some (form.read h.0) made y h.2 in
    let w = is.back h.0 g.0 g.1 in
    never g.0 w.1 (mark_written mark bytes h.0 h.1 ∙ ap (λ l. mark ++ l) w.0))

-- ---- what a frame carries

no_message : (n : ℕ) → is_message (codes "BYTES " ++ decimal n) ≡ true → ⊥
no_message n e =
    let text : List ℕ = codes "BYTES " ++ decimal n in
    let none : message_of text ≡ None = if_same (nat_le (length text) 8192) None in
    let some : is_some (message_of text) ≡ true = and_second (is_one_line text) (is_some (message_of text)) e in
    let clash : false ≡ true = (rw none at some) in absurd cc

line_there : (text : List ℕ) → is_message text ≡ true → body_form.read text ≡ Some (bodies.Line text)
line_there text ok =
    rw (
      row_none (codes "OPEN") nothing (λ (x : Unit {0}). bodies.Opening) is_nothing text (λ x fine e. let clash : false ≡ true = subst (λ t. is_message t ≡ true) e ok in absurd cc),
      row_none (codes "CLOSE") nothing (λ (x : Unit {0}). bodies.Closing) is_nothing text (λ x fine e. let clash : false ≡ true = subst (λ t. is_message t ≡ true) e ok in absurd cc),
      row_none (codes "BYTES ") large bodies.Bytes is_large text (λ n fine e. no_message n (subst (λ t. is_message t ≡ true) e ok)),
      row_gives [] (passing is_message) bodies.Line (is_passing is_message) text ok text refl,
    ) refl

bytes_there : (n : ℕ) → large.ok n → body_form.read (body_text (bodies.Bytes n)) ≡ Some (bodies.Bytes n)
unfolding behind_mark
bytes_there n ok = rw (is_large.there n ok) refl

body_there : (body : FrameText) → IsBody body → body_form.read (body_text body) ≡ Some body
unfolding behind_mark
body_there bodies.Opening ok = refl
body_there bodies.Closing ok = refl
body_there (bodies.Bytes n) ok = bytes_there n ok
body_there (bodies.Line text) ok = line_there text ok

pub is_body_form : IsForm body_form
is_body_form = is_table body_text body_rows IsBody (
  row_back body_text IsBody (codes "OPEN") nothing (λ x. bodies.Opening) is_nothing (λ x ok. (refl, tt)),
  (
    row_back body_text IsBody (codes "CLOSE") nothing (λ x. bodies.Closing) is_nothing (λ x ok. (refl, tt)),
    (
      row_back body_text IsBody (codes "BYTES ") large bodies.Bytes is_large (λ x ok. (refl, ok)),
      (row_back body_text IsBody [] (passing is_message) bodies.Line (is_passing is_message) (λ x ok. (refl, ok)), tt),
    ),
  ),
)
    body_there

-- ---- frames

way_each : (x : Bool) → find (λ y. bytes_eq (way_word y) (way_word x)) (true ∷ false ∷ []) ≡ Some x
way_each true = refl
way_each false = refl

small_space : Lacks 32 small
small_space n ok = decimal_lacks 32 refl n

large_space : Lacks 32 large
large_space n ok = decimal_lacks 32 refl n

way_space : Lacks 32 (one_of way_word (true ∷ false ∷ []))
way_space true ok = refl
way_space false ok = refl

pub is_frame_parts : (repos : List RepoView) → AreNamed repos → IsForm (frame_parts repos)
is_frame_parts repos named =
    is_up_to 32 (repo_number repos) (λ p. up_to 32 small (λ s. up_to 32 (one_of way_word (true ∷ false ∷ [])) (λ w. up_to 32 small (λ e. up_to 32 large (λ n. body_form))))) (is_repo_number repos named) named.lacks_space (λ p ok.
    is_up_to 32 small (λ s. up_to 32 (one_of way_word (true ∷ false ∷ [])) (λ w. up_to 32 small (λ e. up_to 32 large (λ n. body_form)))) is_small small_space (λ s ok.
    is_up_to 32 (one_of way_word (true ∷ false ∷ [])) (λ w. up_to 32 small (λ e. up_to 32 large (λ n. body_form))) (is_one_of way_word (true ∷ false ∷ []) way_each) way_space (λ w ok.
    is_up_to 32 small (λ e. up_to 32 large (λ n. body_form)) is_small small_space (λ e ok.
    is_up_to 32 large (λ n. body_form) is_large large_space (λ n ok. is_body_form)))))

frame_words : (name slot epoch seq body : List ℕ) (up : Bool) → name ++ 32 ∷ (slot ++ 32 ∷ (way_word up ++ 32 ∷ (epoch ++ 32 ∷ (seq ++ 32 ∷ body))))
    ≡ name ++ codes " " ++ slot ++ way_text up ++ epoch ++ codes " " ++ seq ++ codes " " ++ body
frame_words name slot epoch seq body true = simp append_assoc
frame_words name slot epoch seq body false = simp append_assoc

frame_spelled : (repos : List RepoView) (x : Parts) → (frame_parts repos).text x ≡ frame_text repos (a_frame x)
frame_spelled repos x = frame_words (name_of repos x.0) (decimal x.1.0) (decimal x.1.1.1.0) (decimal x.1.1.1.1.0) (body_text x.1.1.1.1.1) x.1.1.0

frame_row_back : (repos : List RepoView) → AreNamed repos → (mark : List ℕ) → RowBack (λ f. mark ++ frame_text repos f) (IsFrame repos) (row mark (frame_parts repos) a_frame)
frame_row_back repos named mark = row_back (λ f. mark ++ frame_text repos f) (IsFrame repos) mark (frame_parts repos) a_frame (is_frame_parts repos named)
    (λ x ok. (ap (λ l. mark ++ l) (frame_spelled repos x), record { peer = ok.0; slot = ok.1.0; epoch = ok.1.1.1.0; seq = ok.1.1.1.1.0; body = ok.1.1.1.1.1 }))

frame_there : (repos : List RepoView) → AreNamed repos → (mark : List ℕ) (f : FrameView) → IsFrame repos f → by_rows (row mark (frame_parts repos) a_frame ∷ []) (mark ++ frame_text repos f) ≡ Some f
frame_there repos named mark f ok = first_reads (row mark (frame_parts repos) a_frame) [] (mark ++ frame_text repos f) f
    (row_gives mark (frame_parts repos) a_frame (is_frame_parts repos named) (f.peer, (f.slot, (f.up, (f.epoch, (f.seq, f.body)))))
    (ok.peer, (ok.slot, (tt, (ok.epoch, (ok.seq, ok.body))))) (mark ++ frame_text repos f)
    (ap (λ l. mark ++ l) (frame_spelled repos (f.peer, (f.slot, (f.up, (f.epoch, (f.seq, f.body))))))))

pub is_frame_form : (repos : List RepoView) → AreNamed repos → (mark : List ℕ) → IsForm (frame_form repos mark)
is_frame_form repos named mark = is_table (λ f. mark ++ frame_text repos f) (row mark (frame_parts repos) a_frame ∷ []) (IsFrame repos) (frame_row_back repos named mark, tt) (frame_there repos named mark)
