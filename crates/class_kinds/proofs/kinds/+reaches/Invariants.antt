use Rattle.class_kinds.proofs.kinds.+reaches.Given as goal

-- the classes that may still be looked at
abbrev pub decreases-reaches : goal.decreases-reaches
decreases-reaches l = l.most
