pub mod PutLaws
