-- What the proof of `glob::Glob::parse` needs beside the tactics.
use Rattle.std.proofs.Common.{Vec, Global}
use Rattle.glob_match.specs.declared.item.Item.{Item}
use Rattle.std.specs.Str.{chars}
use Rattle.glob_match.proofs.ReadingLemmas.{glob_unique, open_or_glob, failed_only, failed_first}
use Rattle.glob_match.proofs.glob.Glob.parse.Goals as goal

pub returns-in_err-items-clause-only : goal.returns-in_err-items-clause-only
returns-in_err-items-clause-only c = failed_only (λ (v : Vec Item Global). v.items) c.from_residual.result c.in_err-items.field-0.0 (chars c.args.text.now) c.from_residual.ensures.1 c.in_err-items.ensures

pub returns-in_err-items-clause-first : goal.returns-in_err-items-clause-first
returns-in_err-items-clause-first c = failed_first (λ (v : Vec Item Global). v.items) c.from_residual.result c.in_err-items.field-0.0 (chars c.args.text.now) c.from_residual.ensures.1 c.in_err-items.ensures

pub returns-clause-only : goal.returns-clause-only
returns-clause-only c = λ items g. glob_unique c.in_ok-items.items.items items (chars c.args.text.now) c.in_ok-items.ensures g

pub returns-clause-first : goal.returns-clause-first
returns-clause-first c = λ at h. absurd (open_or_glob c.in_ok-items.items.items at (chars c.args.text.now) c.in_ok-items.ensures h)
