use Rattle.search_words.proofs.WordsLaws.{few_is}
use Rattle.search_words.proofs.words.is_few.Goals as goal

pub returns : goal.returns
returns c = few_is c.plus_count.result c.args.query.now c.plus_count.ensures
