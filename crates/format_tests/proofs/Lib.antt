mod Childs
