use Rattle.store_model.specs.File.{seen}
use Rattle.store_model.specs.Trace.{file_of}
use Rattle.check_repair.proofs.Told.{numbered_result, read_as, refused_rules, rule_alone, stopped}
use Rattle.check_repair.proofs.looking.rules_of.Goals as goal

pub returns-in-Ok-clause-told : goal.returns-in-Ok-clause-told
returns-in-Ok-clause-told g c =
    numbered_result c.args.file (g.S.Store.disk c.args.store.now).told (g.S.Store.disk c.numbers_of.new.store).told c.in-Ok.read.parts c.all_rules.result c.in_ok-read.ensures.store.told
    (λ t told. read_as (seen (file_of t c.args.file)) c.in_ok-read.field-0 c.in-Ok.read c.in-Ok.is (c.in_ok-read.ensures.reads t told)) c.all_rules.ensures.told c.all_rules.ensures.locator

pub returns-in_ok-one_rule-in-Err-clause-told : goal.returns-in_ok-one_rule-in-Err-clause-told
returns-in_ok-one_rule-in-Err-clause-told g c t told =
    refused_rules (seen (file_of t c.args.file)) c.in_ok-read.field-0 c.in-Err.refusal c.in_ok-one_rule-in-Err.field-0 c.in-Err.is
    (stopped c.in_ok-read.field-0 c.in-Err.refusal c.in-Err.is c.in_ok-read.ensures.refused) (c.in_ok-read.ensures.reads t told) c.in_ok-one_rule-in-Err.ensures.rule c.in_ok-one_rule-in-Err.ensures.locator

pub returns-in_ok-one_rule-in-Err-clause-means : goal.returns-in_ok-one_rule-in-Err-clause-means
returns-in_ok-one_rule-in-Err-clause-means g c =
    rule_alone c.in-Err.refusal c.in_ok-one_rule-in-Err.field-0.rules.items (stopped c.in_ok-read.field-0 c.in-Err.refusal c.in-Err.is c.in_ok-read.ensures.refused) c.in_ok-one_rule-in-Err.ensures.rule
