-- What the proof of `writing::drafted` needs beside the tactics.
use Rattle.std.proofs.Common.{List, ℕ, Option, ap, ◌∙◌, rules, arith}
use Rattle.annex_base.specs.declared.kinds.Call.TheVariants.{PutFile}
use Rattle.union_merge.specs.Branch.{Files, lines_at, or_none}
use Rattle.union_merge.specs.LineSet.{text_of}
use Rattle.store_entries.specs.Changes.{lines_after_change}
use Rattle.store_entries.proofs.writing.drafted.Goals as goal

pub returns-in_err-ready-clause-err : goal.returns-in_err-ready-clause-err
returns-in_err-ready-clause-err c by = let h = c.in_err-ready.ensures.err by PutFile in first_of (search (rules, h), grind (arith, h))

pub returns-in-Ok-clause-bytes : goal.returns-in-Ok-clause-bytes
returns-in-Ok-clause-bytes c =
    let b = c.args.branch.now in
    let path = c.args.path.now in
    c.in-Ok.ensures ∙ ap (λ (w : Files). text_of (lines_at w path)) c.in_ok-undo.ensures.ok
    ∙ ap (λ (o : Option (List (List ℕ))). text_of (or_none o)) (c.files_are_changed_alone.ensures.there b path (lines_after_change c.args.change (lines_at b path)))

pub returns-in-Err-clause-err_branch : goal.returns-in-Err-clause-err_branch
returns-in-Err-clause-err_branch c = c.put_back.ensures ∙ c.in_ok-undo.ensures.undo
