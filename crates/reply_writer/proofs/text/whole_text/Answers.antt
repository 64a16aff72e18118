use Rattle.std.proofs.Common.{◌≡◌, rules}
use Rattle.std.specs.Prelude.{IfOk, option_copied}
use Rattle.reply_writer.specs.Spelling.{date_value, dated, whole_text_of}
use Rattle.reply_writer.proofs.WholeLaws.{results_spell}
use Rattle.reply_writer.proofs.text.whole_text.Goals as goal

pub returns-then-stands_alone-clause-spells : goal.returns-then-stands_alone-clause-spells
returns-then-stands_alone-clause-spells c =
    let text : IfOk c.head_text.result (λ text. text ≡ whole_text_of (dated (date_value (option_copied c.args.date)) c.args.reply.now) c.args.head_only c.args.close) =
    search rules in
    results_spell c.head_text.result c.args.reply.now c.args.head_only c.args.close (date_value (option_copied c.args.date)) text

pub returns-else-stands_alone-clause-spells : goal.returns-else-stands_alone-clause-spells
returns-else-stands_alone-clause-spells c =
    let text : IfOk c.text_with_body.result (λ text. text ≡ whole_text_of (dated (date_value (option_copied c.args.date)) c.args.reply.now) c.args.head_only c.args.close) =
    search rules in
    results_spell c.text_with_body.result c.args.reply.now c.args.head_only c.args.close (date_value (option_copied c.args.date)) text
