-- The lemmas say just this.
use Rattle.macho_model.proofs.ObjectLaws.{object_keeps, kept_object, dylib_keeps, kept_dylib}
use Rattle.macho_model.proofs.laws.objects_pass_each_test.Goals as goal

pub returns-clause-objects : goal.returns-clause-objects
returns-clause-objects c b is = object_keeps is

pub returns-clause-are_objects : goal.returns-clause-are_objects
returns-clause-are_objects c b keeps = kept_object keeps

pub returns-clause-libraries : goal.returns-clause-libraries
returns-clause-libraries c b is = dylib_keeps is

pub returns-clause-are_libraries : goal.returns-clause-are_libraries
returns-clause-are_libraries c b keeps = kept_dylib keeps
