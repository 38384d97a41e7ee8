use Rattle.quanta_words.proofs.WordLaws.{word_cut}
use Rattle.quanta_words.proofs.words.word_at.Goals as goal

pub returns : goal.returns
returns c =
    let rest = c.in_ok-record.ensures.lookup.0 in
    let size = c.in_ok-size.ensures.lookup.3 in
    word_cut c.args.table.now _ c.args.i _ rest.2 rest.3 size.0 (size.1 0) _ c.get-3.ensures.lookup
