-- What the proof of `laws::empty_texts_want_all_and_require_none` needs beside the tactics.
use Rattle.wanted_expr.proofs.WantedLemmas.{requires_none, wants_all}
use Rattle.wanted_expr.proofs.laws.empty_texts_want_all_and_require_none.Goals as goal

pub returns-clause-wants : goal.returns-clause-wants
returns-clause-wants c = wants_all

pub returns-clause-required : goal.returns-clause-required
returns-clause-required c = requires_none
