use Rattle.wafulexi.proofs.Sampling.{has_sample, has_answers}
use Rattle.wafulexi.proofs.commands.class_list.class_line.Goals as goal

pub unwrap-requires : goal.unwrap-requires
unwrap-requires g c =
    let a = c.args.alphabet.now in
    rw c.sample.ensures (has_sample g.L.Letter.proper (g.A.Alphabet.count_of a) (g.A.Alphabet.class_of a) (g.A.Alphabet.sample_of a) (g.met.A.Alphabet.sampled a) c.args.class c.requires)

pub unwrap-answers-requires : goal.unwrap-answers-requires
unwrap-answers-requires g c =
    let a = c.args.alphabet.now in
    rw c.answers.ensures (has_answers g.L.Letter.proper (g.A.Alphabet.count_of a) (g.A.Alphabet.class_of a) (g.A.Alphabet.sample_of a) (g.met.A.Alphabet.sampled a) c.args.class c.requires (g.A.Alphabet.answers_of a) (g.A.Alphabet.meaning a) (g.met.A.Alphabet.classed a))
