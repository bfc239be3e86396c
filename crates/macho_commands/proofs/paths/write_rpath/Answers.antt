use Rattle.macho_commands.proofs.PathTexts.{rpath_done}
use Rattle.macho_commands.proofs.paths.write_rpath.Goals as goal

pub returns-clause-written : goal.returns-clause-written
returns-clause-written c = (rpath_done c.args.path.now _ c.args.at c.args.out.now c.write.new.out c.put_path.new.out
    c.path_command_size.ensures c.requires.room c.write.ensures.back
    c.write.ensures.written c.put_path.ensures).written

pub returns-clause-long : goal.returns-clause-long
returns-clause-long c = (rpath_done c.args.path.now _ c.args.at c.args.out.now c.write.new.out c.put_path.new.out
    c.path_command_size.ensures c.requires.room c.write.ensures.back
    c.write.ensures.written c.put_path.ensures).long

pub returns-clause-readable : goal.returns-clause-readable
returns-clause-readable c = (rpath_done c.args.path.now _ c.args.at c.args.out.now c.write.new.out c.put_path.new.out
    c.path_command_size.ensures c.requires.room c.write.ensures.back
    c.write.ensures.written c.put_path.ensures).readable
