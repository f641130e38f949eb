pub mod MembersLoop
