use Rattle.search_words.proofs.SearchLaws.{gives_search_words}
use Rattle.search_words.proofs.laws.words_are_a_search_string.Goals as goal

pub returns : goal.returns
returns c = gives_search_words
