use Rattle.std.proofs.Common.{[], None}
use Rattle.std.proofs.lemmas.Result.{IfOk-weaker}
use Rattle.hyphenation_reader.proofs.JudgingLine.{early, exception-utf8, pattern-utf8, pattern_passes, passed_late, refused_late, said_late}
use Rattle.hyphenation_reader.proofs.items.item_of.Goals as goal

pub returns-in-Some-clause-refused : goal.returns-in-Some-clause-refused
returns-in-Some-clause-refused g c = early c.args.form 4 c.args.line.now c.in-Some.cause c.in-Some.ensures

pub pattern_item-requires : goal.pattern_item-requires
pattern_item-requires g c = pattern-utf8 c.args.form 4 c.args.line.now c.in-Some-strip_prefix.text.now c.early_cause.result c.in_default.not-Some c.early_cause.ensures c.in-Some-strip_prefix.ensures

pub exception_item-requires : goal.exception_item-requires
exception_item-requires g c = exception-utf8 c.args.form 4 c.args.line.now c.in-Some-strip_prefix-2.text.now c.early_cause.result c.in_default.not-Some c.early_cause.ensures c.in-Some-strip_prefix-2.ensures

pub returns-in-Some-strip_prefix-clause-refused : goal.returns-in-Some-strip_prefix-clause-refused
returns-in-Some-strip_prefix-clause-refused g c =
    IfOk-weaker c.pattern_item.result _ _ (λ found is. refused_late c.args.form 4 c.args.line.now c.early_cause.result c.in_default.not-Some c.early_cause.ensures _ found (is c.args.line.now c.in-Some-strip_prefix.ensures)) c.pattern_item.ensures

pub returns-in-Some-strip_prefix-2-clause-refused : goal.returns-in-Some-strip_prefix-2-clause-refused
returns-in-Some-strip_prefix-2-clause-refused g c =
    IfOk-weaker c.exception_item.result _ _ (λ found is. refused_late c.args.form 4 c.args.line.now c.early_cause.result c.in_default.not-Some c.early_cause.ensures _ found (is c.args.line.now c.in-Some-strip_prefix-2.ensures [] [])) c.exception_item.ensures

pub returns-in-Some-strip_prefix-2-clause-passes : goal.returns-in-Some-strip_prefix-2-clause-passes
returns-in-Some-strip_prefix-2-clause-passes g c =
    IfOk-weaker c.exception_item.result _ _ (λ found is. passed_late c.args.form 4 c.args.line.now c.early_cause.result c.in_default.not-Some c.early_cause.ensures _ found (is c.args.line.now c.in-Some-strip_prefix-2.ensures [] [])) c.exception_item.ensures

pub returns-in-Some-strip_prefix-2-clause-says : goal.returns-in-Some-strip_prefix-2-clause-says
returns-in-Some-strip_prefix-2-clause-says g c =
    IfOk-weaker c.exception_item.result _ _ (λ found is. said_late c.args.form c.args.line.now _ found (is c.args.line.now c.in-Some-strip_prefix-2.ensures _ _)) c.exception_item.ensures

pub returns-then-is_read-clause-passes : goal.returns-then-is_read-clause-passes
returns-then-is_read-clause-passes g c =
    let read = c.requires.read c.if-is_read.true in
    IfOk-weaker c.item_of_read.result _ _ (λ found is. passed_late c.args.form 4 c.args.line.now None (λ x e. absurd cc) (pattern_passes c.args.form c.args.line.now read.0 (c.requires.utf8 c.if-known.true) read.1) _ found is) c.item_of_read.ensures

pub returns-then-is_read-clause-refused : goal.returns-then-is_read-clause-refused
returns-then-is_read-clause-refused g c =
    let read = c.requires.read c.if-is_read.true in
    IfOk-weaker c.item_of_read.result _ _ (λ found is. refused_late c.args.form 4 c.args.line.now None (λ x e. absurd cc) (pattern_passes c.args.form c.args.line.now read.0 (c.requires.utf8 c.if-known.true) read.1) _ found is) c.item_of_read.ensures

pub returns-then-is_read-clause-says : goal.returns-then-is_read-clause-says
returns-then-is_read-clause-says g c =
    IfOk-weaker c.item_of_read.result _ _ (λ found is. said_late c.args.form c.args.line.now _ found is) c.item_of_read.ensures

pub returns-in-Some-strip_prefix-clause-passes : goal.returns-in-Some-strip_prefix-clause-passes
returns-in-Some-strip_prefix-clause-passes g c =
    IfOk-weaker c.pattern_item.result _ _ (λ found is. passed_late c.args.form 4 c.args.line.now c.early_cause.result c.in_default.not-Some c.early_cause.ensures _ found (is c.args.line.now c.in-Some-strip_prefix.ensures)) c.pattern_item.ensures

pub returns-in-Some-strip_prefix-clause-says : goal.returns-in-Some-strip_prefix-clause-says
returns-in-Some-strip_prefix-clause-says g c =
    IfOk-weaker c.pattern_item.result _ _ (λ found is. said_late c.args.form c.args.line.now _ found (is c.args.line.now c.in-Some-strip_prefix.ensures)) c.pattern_item.ensures
