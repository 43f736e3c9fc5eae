use Rattle.source.proofs.Templates.{after_first, length_after}
use Rattle.source.proofs.template.TemplateSourceSource.take.Goals as goal

pub returns : goal.returns
returns c =
    let before = c.args.self.now.rest.now in
    let left = c.cut.result.1.now in
    record { coming = after_first before left c.args.self.now.at c.cut.ensures.rest; end = length_after before left c.args.self.now.at c.cut.ensures.rest }
