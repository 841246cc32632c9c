-- What the proof of `key::Key::from_file` needs beside the tactics.
use Rattle.std.proofs.Common.{◌≡◌, ◌∙◌, sym, ap}
use Rattle.annex_key.specs.KeyFile.{file_text}
use Rattle.annex_key.specs.KeyText.{IsKeyText}
use Rattle.annex_key.proofs.FileLemmas as files
use Rattle.annex_key.proofs.FileKeyLemmas as keys
use Rattle.annex_key.proofs.key.Key.from_file.Goals as goal

pub returns-in_err-text-clause-only : goal.returns-in_err-text-clause-only
returns-in_err-text-clause-only c = λ text key spelled. files.failed_only (λ k. k ≡ text) c.from_residual.result c.in_err-text.field-0.0 c.args.file.now text c.from_residual.ensures.1 c.in_err-text.ensures.err spelled

pub returns-in_err-text-clause-first : goal.returns-in_err-text-clause-first
returns-in_err-text-clause-first c = λ e b. files.failed_first c.from_residual.result c.in_err-text.field-0.0 e c.args.file.now c.from_residual.ensures.1 c.in_err-text.ensures.err b

spelled : (c : goal.After-drop-text) → c.args.file.now ≡ file_text c.deref.result.now
spelled c = c.in_ok-text.ensures.ok ∙ ap file_text (sym c.deref.ensures.value)

pub returns-clause-found : goal.returns-clause-found
returns-clause-found c = files.file_found c.args.file.now c.deref.result.now c.parse.result (spelled c) c.parse.ensures.found

pub returns-clause-only : goal.returns-clause-only
returns-clause-only c = files.file_only c.args.file.now c.deref.result.now c.parse.result (spelled c) c.parse.ensures.only

pub returns-clause-faults : goal.returns-clause-faults
returns-clause-faults c = files.file_faults c.args.file.now c.deref.result.now c.parse.result (spelled c) c.parse.ensures.faults

pub returns-clause-first : goal.returns-clause-first
returns-clause-first c = files.file_first c.args.file.now c.deref.result.now c.parse.result (spelled c) c.parse.ensures.faults

pub returns-in_err-text-clause-exact : goal.returns-in_err-text-clause-exact
returns-in_err-text-clause-exact c =
    keys.exact c.args.file.now c.from_residual.result (keys.found_of_err (λ k. (c.args.file.now ≡ file_text k) × IsKeyText k) (λ d. d ≡ c.in_err-text.field-0.0) c.from_residual.result c.from_residual.ensures.1)
    (returns-in_err-text-clause-only c)

pub returns-clause-exact : goal.returns-clause-exact
returns-clause-exact c = keys.exact c.args.file.now c.parse.result (returns-clause-found c) (returns-clause-only c)
