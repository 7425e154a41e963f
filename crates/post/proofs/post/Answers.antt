use Rattle.std.proofs.Common.{rules}
use Rattle.post.proofs.Postings.{posts_passed}
use Rattle.post.proofs.post.Goals as goal

pub returns : goal.returns
returns c = posts_passed c.args.core.now c.args.sheet.now c.args.budget (search rules) c.start.ensures _ _ c.run.ensures c.or.ensures
