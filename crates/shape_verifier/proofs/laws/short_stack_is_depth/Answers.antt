use Rattle.shape_verifier.proofs.Depths.{below_stays, depth_short, short_depth}
use Rattle.shape_verifier.proofs.laws.short_stack_is_depth.Goals as goal

pub returns : goal.returns
returns c = record {
  short = λ p n place m i s low. short_depth p n place m i s low;
  only = λ p n place m i s is. depth_short p n place m i s is;
  below = λ p n i s below high. below_stays p n i s below high;
}
