use Rattle.tool_io.proofs.memory.MemoryFolderFolder.load.Goals as goal

pub returns-clause-failed : goal.returns-clause-failed
returns-clause-failed c = rw c.fails_now.ensures.loads (c.copy_of.ensures.answers c.args.self.now.load_faults)
